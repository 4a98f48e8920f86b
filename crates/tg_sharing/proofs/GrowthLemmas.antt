-- What a step can add to a graph: the edges of one take, grant or create, and a vertex.
use Rattle.std.proofs.Common.{◌≡◌, ◌≢◌, ℕ, ◌≤◌, [], List, Bool, true, false, cond, not, refl, sym, ap, subst, ◌∙◌, ◌==◌, ◌&&◌, ◌||◌, ◌⊎◌, inl, inr, Some, None, arith}
use Rattle.std.specs.Prelude.{Option}
use Rattle.std.specs.Option.{option_map}
use Rattle.std.specs.Cmp.{nat_cmp_total, unsigned_tied}
use Rattle.std.specs.FinMap as map
use Rattle.std.specs.FinSet as set
use Rattle.std.proofs.lemmas.Bool.{eqb-true, eq-eqb, ne_eqb, or_cases, or_right, and_parts}
use Rattle.tg_rights.specs.Promise.Letters.{Letters, Right, take, grant, has}
use Rattle.tg_rights.specs.declared.kind.Kind.{Kind}
use Rattle.tg_rights.specs.declared.kind.Kind.TheVariants as kind
use Rattle.tg_rights.specs.declared.command.Command.{Command}
use Rattle.tg_rights.specs.declared.command.Command.TheVariants as command
use Rattle.tg_graph.specs.declared.vertex.Vertex.{Vertex}
use Rattle.tg_graph.specs.Promise.Protection.{Triple, edge, Protection, IsSubject, kind_of, vertex}
use Rattle.tg_graph.specs.Promise.Rules.{Allowed, after, done, with_text}
use Rattle.tg_graph.specs.Promise.Terms as effect
use Rattle.tg_graph.proofs.LabelLemmas.{contains-label}
use Rattle.tg_graph.proofs.PartsStayLemmas.{with_text-retired}
use Rattle.tg_graph.proofs.RollLemmas.{untrue}
use Rattle.tg_graph.proofs.TriplesLemmas.{contains-edge, triple_cmp_total}
use Rattle.tg_graph.proofs.VertexLemmas.{with_text-next}
use Rattle.tg_graph.specs.Promise.EachCommand.{EachIsAllowedSo, HasOver}
use Rattle.tg_sharing.specs.Promise.Spans.{IsActor}

module _ (G : Protection) (x : ℕ) where
  -- where an edge of the next graph comes from: it was there, x took it, x granted it, or x made its end
  pub data Source (a : ℕ) (r : Right) (b : ℕ) : Type 0 where
    Kept : HasOver G a r b → Source a r b
    Taken : (z : ℕ) → a ≡ x → IsActor G x → HasOver G x take z → HasOver G z r b → Source a r b
    Granted : IsActor G x → HasOver G x grant a → HasOver G x r b → Source a r b
    Made : a ≡ x → IsActor G x → b ≡ G.next → Source a r b

  -- H has no other edges, and who may act in it could before or is new
  pub record Grows (H : Protection) : Type 0 where
    pub edges : (a : ℕ) (r : Right) (b : ℕ) → HasOver H a r b → Source a r b
    pub actors : (v : ℕ) → IsActor H v → IsActor G v ⊎ ((v ≡ G.next) × IsActor G x)
    pub next : G.next ≤ H.next

-- an edge of the union is one of the graph, or has one of the rights that were added
joins : (G : Protection) (H : Protection) (x y : ℕ) (l : Letters) → H.triples ≡ set.union G.triples (edge x l y) → (a : ℕ) (r : Right) (b : ℕ) → HasOver H a r b →
    HasOver G a r b ⊎ ((a ≡ x) × (b ≡ y) × (has l r ≡ true))
joins G H x y l is a r b h =
    let t : Triple = record { from = a; right = r; to = b } in
    let there : (set.contains G.triples t || set.contains (edge x l y) t) ≡ true =
    sym (set.contains-union triple_cmp_total G.triples (edge x l y) t) ∙ ap (λ S. set.contains S t) (sym is) ∙ contains-label H t ∙ h in
    elim (or_cases (set.contains G.triples t) (set.contains (edge x l y) t) there) [
      | inl old ↦ inl (sym (contains-label G t) ∙ old)
      | inr new ↦ (let at = and_parts _ _ (sym (contains-edge x y l t) ∙ new) in
          let rest = and_parts _ _ at.1 in
          inr (eqb-true a x at.0, eqb-true b y rest.0, rest.1))
    ]

-- an edge of the difference is one of the graph
drops : (G : Protection) (H : Protection) (x y : ℕ) (l : Letters) → H.triples ≡ set.difference G.triples (edge x l y) → (a : ℕ) (r : Right) (b : ℕ) → HasOver H a r b → HasOver G a r b
drops G H x y l is a r b h =
    let t : Triple = record { from = a; right = r; to = b } in
    let there : (set.contains G.triples t && not (set.contains (edge x l y) t)) ≡ true =
    sym (set.contains-difference triple_cmp_total G.triples (edge x l y) t) ∙ ap (λ S. set.contains S t) (sym is) ∙ contains-label H t ∙ h in
    sym (contains-label G t) ∙ (and_parts _ _ there).0

-- the labels follow the triples alone
same_triples : (G H : Protection) → H.triples ≡ G.triples → (a : ℕ) (r : Right) (b : ℕ) → HasOver H a r b → HasOver G a r b
same_triples G H is a r b h =
    let t : Triple = record { from = a; right = r; to = b } in
    sym (contains-label G t) ∙ ap (λ S. set.contains S t) (sym is) ∙ contains-label H t ∙ h

-- in a graph that gets a vertex, one of another serial is as it was, and the new one is there
pub other_vertex : (G : Protection) (v w : ℕ) (e : Vertex) → w ≢ v → map.get (map.insert G.vertices v e) w ≡ vertex G w
other_vertex G v w e apart = map.get-insert nat_cmp_total G.vertices v e w ∙ ap (λ b. cond b (Some e) (vertex G w)) (unsigned_tied w v ∙ ne_eqb w v apart)

pub this_vertex : (G : Protection) (v : ℕ) (e : Vertex) → map.get (map.insert G.vertices v e) v ≡ Some e
this_vertex G v e = map.get-insert nat_cmp_total G.vertices v e v ∙ ap (λ b. cond b (Some e) (vertex G v)) (unsigned_tied v v ∙ eq-eqb v v refl)

module _ (G : Protection) (x : ℕ) where
  stays : Grows G x G
  stays = record { edges = λ a r b h. Kept h; actors = λ v act. inl act; next = omega arith }

  -- a vertex that gets a text keeps its kind
  rewritten : (v : ℕ) (text : List ℕ) (w : ℕ) → kind_of (with_text G v text (vertex G v)) w ≡ kind_of G w
  rewritten v text w = told (vertex G v) refl where
    told : (o : Option Vertex) → vertex G v ≡ o → kind_of (with_text G v text o) w ≡ kind_of G w
    told None is = refl
    told (Some e) is = by (w == v) refl where
      by : (b : Bool) → (w == v) ≡ b → kind_of (with_text G v text (Some e)) w ≡ kind_of G w
      by true same = ap (λ q. kind_of (with_text G v text (Some e)) q) (eqb-true w v same) ∙ ap (option_map (λ e. e.kind)) (this_vertex G v (record e { text = text })) ∙ ap (option_map (λ e. e.kind)) (sym is) ∙ ap (kind_of G) (sym (eqb-true w v same))
      by false apart = ap (option_map (λ e. e.kind)) (other_vertex G v w (record e { text = text }) (λ is. absurd (cc (apart, eq-eqb w v is))))

  rewritten-triples : (v : ℕ) (text : List ℕ) (o : Option Vertex) → (with_text G v text o).triples ≡ G.triples
  rewritten-triples v text None = refl
  rewritten-triples v text (Some e) = refl

  made : (k : Kind) (α : Letters) (name : Option (List ℕ)) → IsActor G x → Grows G x (done G x (effect.Makes k α name))
  made k α name act = record {
    edges = λ p r q h. elim (joins G (done G x (effect.Makes k α name)) x G.next α refl p r q h) [
      | inl old ↦ Kept old
      | inr new ↦ Made new.0 act new.1
    ];
    actors = λ v acts. by v acts (v == G.next) refl;
    next = omega arith;
  } where
    by : (v : ℕ) → IsActor (done G x (effect.Makes k α name)) v → (b : Bool) → (v == G.next) ≡ b → IsActor G v ⊎ ((v ≡ G.next) × IsActor G x)
    by v acts true is = inr (eqb-true v G.next is, act)
    by v acts false is = inl (ap (option_map (λ e. e.kind)) (sym (other_vertex G G.next v (record { kind = k; text = [] }) (λ same. absurd (cc (is, eq-eqb v G.next same))))) ∙ acts.0, acts.1)

  -- who has not retired had not
  before : (v : ℕ) → set.contains (set.insert G.retired x) v ≡ false → set.contains G.retired v ≡ false
  before v e = untrue _ (λ is. absurd (cc (e, set.contains-insert nat_cmp_total G.retired x v ∙ or_right _ _ is)))

  -- what an allowed command can add
  pub grown : EachIsAllowedSo → IsSubject G x → (c : Command) → Allowed G x c → Grows G x (after G x c)
  grown law s (command.Take α over from) a =
      let m = ((law G x).takes α over from).0 a in
      let act : IsActor G x = (s, m.unretired) in
      record {
        edges = λ p r q h. elim (joins G (after G x (command.Take α over from)) x over α refl p r q h) [
          | inl old ↦ Kept old
          | inr new ↦ subst (λ w. Source G x p r w) (sym new.1) (Taken from new.0 act m.over (m.there r new.2))
        ];
        actors = λ v act. inl act;
        next = omega arith;
      }
  grown law s (command.Grant α over to) a =
      let m = ((law G x).grants α over to).0 a in
      let act : IsActor G x = (s, m.unretired) in
      record {
        edges = λ p r q h. elim (joins G (after G x (command.Grant α over to)) to over α refl p r q h) [
          | inl old ↦ Kept old
          | inr new ↦ Granted act (subst (λ w. HasOver G x grant w) (sym new.0) m.over) (subst (λ w. HasOver G x r w) (sym new.1) (m.own r new.2))
        ];
        actors = λ v act. inl act;
        next = omega arith;
      }
  grown law s (command.Create k α) a = made k α None (s, (((law G x).creates k α).0 a).unretired)
  grown law s (command.Enrol name α) a = made kind.Subject α (Some name) (s, (((law G x).enrols name α).0 a).unretired)
  grown law s (command.Remove α over) a = record {
    edges = λ p r q h. Kept (drops G (after G x (command.Remove α over)) x over α refl p r q h);
    actors = λ v act. inl act;
    next = omega arith;
  }
  grown law s (command.Write over text) a =
      let H = with_text G over text (vertex G over) in
      record {
        edges = λ p r q h. Kept (same_triples G H (rewritten-triples over text (vertex G over)) p r q h);
        actors = λ v act. inl (sym (rewritten over text v) ∙ act.0, ap (λ S. set.contains S v) (sym (with_text-retired G over text (vertex G over))) ∙ act.1);
        next = let same = with_text-next G over text (vertex G over) in omega (arith, same);
      }
  grown law s command.Retire a = record {
    edges = λ p r q h. Kept (same_triples G (after G x command.Retire) refl p r q h);
    actors = λ v act. inl (act.0, before v act.1);
    next = omega arith;
  }
  grown law s _ a = stays
