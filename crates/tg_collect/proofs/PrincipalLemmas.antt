-- A new subject is a principal from the start.
use Rattle.std.proofs.Common.{◌≡◌, ℕ, ◌<◌, List, [], ◌∷◌, length, Option, Some, None, inl, sym, ◌∙◌, subst, ap, arith, get_or, get_or-set_same, length-set, set}
use Rattle.tg_collect.proofs.Common.{MAX_PRINCIPALS, SEATS, Letters, Subject, contains_append, map_append, length-map, same_Some, Machine, Root, Rerooted, lists_of, Whole, Stored, stored, with_principal, principals, Acted, PrincipalStored, VertexStored}
use Rattle.tg_collect.proofs.SlotLemmas.{at_seat, seat_contains}
use Rattle.tg_collect.proofs.RootLemmas.{principal_added}
use Rattle.tg_collect.proofs.SeatLemmas.{acted_vertex}

-- A subject that a seat has just stored is made a principal.
pub principal_stored : {v : Stored} {m : Machine} {seat x serial : ℕ} {text : List ℕ} {rights : Letters} → Whole m → VertexStored v (stored m) seat x serial Subject text rights → seat < SEATS → (k : Machine) (o : Option Root) (r : Root)
    → length (principals v) < MAX_PRINCIPALS → o ≡ get_or m.roots.targets.items seat o → o ≡ Some r → Rerooted m (with_principal (lists_of m.roots) r) k → Whole k × PrincipalStored v (stored k) seat x serial text rights
principal_stored {v} {m} {seat} {x} {serial} w s l k o r few at is added =
    let new : Root = record { serial = serial; slot = s.new } in
    let seats = w.roots.seats in
    let there = at_seat m.roots.targets.items seat o r (omega (arith, l, seats)) at is in
    let targets : m.roots.targets.items ≡ set v.roots.targets seat (Some new) = ap (λ (z : Stored). z.roots.targets) s.is in
    let size = ap length targets ∙ length-set v.roots.targets seat (Some new) in
    let set_there = get_or-set_same v.roots.targets seat (Some new) None (omega (arith, l, seats, size)) in
    let same : r ≡ new = same_Some r new (sym there ∙ ap (λ (os : List (Option Root)). get_or os seat None) targets ∙ set_there) in
    let count = ap (λ (z : Stored). length z.roots.principals) s.is in
    let room : length m.roots.principals < MAX_PRINCIPALS = (let listed = length-map v.roots.principals (λ (q : Root). q.serial) in omega (arith, few, count, listed)) in
    let done = principal_added m r w room (inl (inl (seat_contains m.roots.targets.items seat r there))) k added in
    (done.0, record { between = stored m; vertex = s; is = done.1 ∙ ap (λ (q : Root). record (stored m) { roots = with_principal (stored m).roots q }) same })

-- It is a session step of a run.
pub acted_principal : (v w : Stored) (seat x serial : ℕ) (text : List ℕ) (rights : Letters) → PrincipalStored v w seat x serial text rights → Acted v w (Some serial) (Some serial)
acted_principal v w seat x serial text rights p = subst (λ (z : Stored). Acted v z (Some serial) (Some serial)) (sym p.is) (record {
  stage = a.stage;
  principals = λ y h. let split = contains_append (principals p.between) (serial ∷ []) y (rw map_append at h) in let old = a.principals y in grind arith;
  agents = a.agents;
  pending = a.pending;
  slots = a.slots;
  changes = a.changes;
  cells = a.cells;
  key = a.key;
  left = a.left;
}) where
  a : Acted v p.between (Some serial) (Some serial)
  a = acted_vertex v p.between seat x serial Subject text rights p.vertex
