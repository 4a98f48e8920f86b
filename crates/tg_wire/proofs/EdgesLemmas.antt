-- Edges that are written from the last to the first.
use Rattle.std.proofs.Common.{◌≡◌, ℕ, ◌+◌, ◌≤◌, ◌<◌, ◌++◌, ◌∷◌, [], Bool, true, false, refl, sym, ap, ◌∙◌, List, append_assoc, length, take, drop, arith}
use Rattle.std.proofs.lemmas.List.{drop-drop, drop-append-le, length-drop, length-take-le, take-append-drop}
use Rattle.std.proofs.lemmas.Slice.{between_is}
use Rattle.std.specs.List.{between}
use Rattle.std.specs.Prelude.{codes, if◌then◌else◌, Result, Ok, Err, OnOk}
use Rattle.std.specs.Result.{is_ok}
use Rattle.tg_wire.proofs.Literals.{numbers_on_literals}
use Rattle.json.specs.Print.{quoted}
use Rattle.serde_json.specs.Written.{compact_text, items_text}
use Rattle.tg_rights.specs.Promise.Letters.{Letters}
use Rattle.tg_wire.specs.Promise.Replies.{edge_data, edges_data}
use Rattle.tg_wire.specs.Inner.Told.{edges_text}

-- ---- an edge

pub edge_whole : (digits quoted rest : List ℕ) → 44 ∷ 91 ∷ (digits ++ 44 ∷ (quoted ++ 93 ∷ rest)) ≡ 44 ∷ 91 ∷ ((digits ++ 44 ∷ (quoted ++ 93 ∷ [])) ++ rest)
edge_whole digits quoted rest = simp append_assoc

-- ---- edges

later_joined : (few rest : List (ℕ × Letters)) → edges_text true few ++ items_text true (edges_data rest) ≡ items_text true (edges_data (few ++ rest))
later_joined [] rest = refl
later_joined (e ∷ es) rest =
    ap (λ l. 44 ∷ l) (append_assoc (compact_text (edge_data e)) (edges_text true es) (items_text true (edges_data rest)) ∙ ap (λ l. compact_text (edge_data e) ++ l) (later_joined es rest))

-- a few edges, and the rest
joined : (later : Bool) (few rest : List (ℕ × Letters)) → 0 < length few → edges_text later few ++ items_text true (edges_data rest) ≡ items_text later (edges_data (few ++ rest))
joined later [] rest some = absurd (omega arith)
joined true (e ∷ es) rest some = later_joined (e ∷ es) rest
joined false (e ∷ es) rest some =
    append_assoc (compact_text (edge_data e)) (edges_text true es) (items_text true (edges_data rest)) ∙ ap (λ l. compact_text (edge_data e) ++ l) (later_joined es rest)

uncommaed : (few : List (ℕ × Letters)) → 0 < length few → drop 1 (edges_text true few) ≡ edges_text false few
uncommaed [] some = absurd (omega arith)
uncommaed (e ∷ es) some = refl

-- without the first comma
pub past_comma : (room : List ℕ) (start : ℕ) (few : List (ℕ × Letters)) → 0 < length few → drop start room ≡ edges_text true few → drop (start + 1) room ≡ edges_text false few
past_comma room start few some text = sym (drop-drop 1 start room) ∙ ap (λ l. drop 1 l) text ∙ uncommaed few some

-- a few more edges of all
pub more_written : (front new : List ℕ) (later : Bool) (edges : List (ℕ × Letters)) (at end : ℕ) → at < end → end ≤ length edges
    → new ≡ front ++ edges_text later (between at end edges)
    → new ++ items_text true (edges_data (drop end edges)) ≡ front ++ items_text later (edges_data (drop at edges))
more_written front new later edges at end low high is =
    let few = drop at (take end edges) in
    let rest = drop end edges in
    let long : length (take end edges) ≡ end = length-take-le end edges high in
    let some : 0 < length few = let size = length-drop at (take end edges) in omega arith in
    let parts : few ++ rest ≡ drop at edges = sym (drop-append-le at (take end edges) rest (omega arith)) ∙ ap (λ l. drop at l) (take-append-drop end edges) in
    ap (λ l. l ++ items_text true (edges_data rest)) (is ∙ ap (λ l. front ++ edges_text later l) (between_is edges at end))
    ∙ append_assoc front (edges_text later few) (items_text true (edges_data rest))
    ∙ ap (λ l. front ++ l) (joined later few rest some ∙ ap (λ l. items_text later (edges_data l)) parts)

-- ---- the line

-- the line of edges that are looked at, once its parts are written
pub told_edges : {E : Type 0} (r : Result (Unit {0}) E) (front edges lead line new : List ℕ) → lead ≡ front ++ codes "{\"edges\":" → line ≡ lead ++ edges
    → new ≡ (if is_ok r then line ++ codes ",\"ok\":\"edges\"}\n" else line)
    → OnOk r (new ≡ front ++ (123 ∷ (quoted (codes "edges") ++ 58 ∷ (edges ++ 44 ∷ (quoted (codes "ok") ++ 58 ∷ (quoted (codes "edges") ++ 125 ∷ [])))) ++ 10 ∷ []))
unfolding numbers_on_literals
told_edges (Ok done) front edges lead line new first second third = rw (third, second, first) (simp append_assoc)
told_edges (Err fault) front edges lead line new first second third = tt
