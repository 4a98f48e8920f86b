-- A restriction of a graph: it agrees with the graph, permits no more, replies alike, and stays one.
use Rattle.std.proofs.Common.{◌≡◌, ℕ, ◌<◌, ◌≤◌, ◌+◌, List, [], ◌∷◌, Bool, true, false, true≢false, length, refl, sym, ap, subst, ◌∙◌, inl, inr, arith}
use Rattle.std.specs.Prelude.{Option}
use Rattle.std.specs.Option.{is_some, option_map, option_map_or}
use Rattle.std.specs.Ordering.{nat_cmp, eq_by_cmp}
use Rattle.std.specs.Cmp.{nat_cmp_total, unsigned_tied}
use Rattle.std.specs.FinMap as map
use Rattle.std.specs.FinSet as set
use Rattle.std.proofs.lemmas.Bool.{eqb-true, eq-eqb, or_cases}
use Rattle.tg_lists.specs.Promise.Membership.{Contains}
use Rattle.tg_rights.specs.Promise.Letters.{Letters, has, is_none}
use Rattle.tg_rights.specs.declared.kind.Kind.TheVariants as kind
use Rattle.tg_rights.specs.declared.command.Command.{Command}
use Rattle.tg_rights.specs.declared.outcome.Outcome.{Outcome}
use Rattle.tg_rights.specs.declared.outcome.Outcome.TheVariants as outcome
use Rattle.tg_rights.specs.declared.outcome.Reply.TheVariants as reply
use Rattle.tg_rights.specs.declared.outcome.Which.{Which}
use Rattle.tg_rights.specs.declared.outcome.Which.TheVariants as which
use Rattle.tg_graph.specs.declared.vertex.Vertex.{Vertex}
use Rattle.tg_graph.specs.Promise.Terms as effect
use Rattle.tg_graph.specs.Promise.Terms.{Does, terms}
use Rattle.tg_graph.specs.Promise.Protection.{Protection, IsEdge, IsGraph, IsSubject, IsVertex, has_retired, label, vertex, Agree, IsRestriction}
use Rattle.tg_graph.specs.Promise.Rules.{Allowed, Judged, after, answered, done, edges_of, last_serial, next_graph, reply_of}
use Rattle.tg_graph.specs.Promise.Fullness.{Limits, MayBeFull, NewEdge, Permitted, edge_count, vertex_count}
use Rattle.tg_graph.proofs.EdgesAreCountedLemmas.{keys_occur_once}
use Rattle.tg_graph.proofs.EdgesAreListedLemmas.{vertex_listed}
use Rattle.tg_graph.proofs.ListedLemmas.{ones, sum_among}
use Rattle.tg_graph.proofs.OutcomesAgreeLemmas.{Judged-agrees}
use Rattle.tg_graph.proofs.LabelLemmas.{contains-label}
use Rattle.tg_graph.proofs.PartsLemmas.{same_bool, same_label, same_option}
use Rattle.tg_graph.proofs.PartsStayLemmas.{Alike, agree_around, agree_back, alike_after, done-retired, into, known_after, out, part_of, still_known, with_text-retired}
use Rattle.tg_graph.proofs.ProtectionLemmas.{Entitled, edge_from, edge_to, entitled}
use Rattle.tg_graph.proofs.RollLemmas.{is_any}
use Rattle.tg_graph.proofs.SameEdgesLemmas.{same_edges}
use Rattle.tg_graph.proofs.TriplesLemmas.{same_triples}
use Rattle.tg_graph.proofs.VertexLemmas.{IsVertex-from_kind, with_text-next}

-- it is one of its own vertices
pub by_vertices : (G H : Protection) (IsKept : ℕ → Type 0) → IsRestriction G H IsKept → IsRestriction G H (IsVertex H)
by_vertices G H IsKept r = record { kept = λ v. (λ h. h, λ h. h); part = r.part; retired = r.retired; next = r.next }

module _ (G H : Protection) (r : IsRestriction G H (IsVertex H)) where
  -- a graph's vertices, labels and principals do not depend on who has retired
  alike : Alike G H (IsVertex H)
  unfolding label
  alike = record { labels = λ v z k. r.part.labels v z k; vertices = λ v k. r.part.vertices v k; step = λ v z k e. r.part.closed v z k e; names = r.part.names }

  same_retired : (v : ℕ) → IsVertex H v → has_retired G v ≡ has_retired H v
  same_retired v v_in = same_bool (has_retired G v) (has_retired H v) (λ t. (r.retired v).1 (v_in, t)) (λ t. ((r.retired v).0 t).1)

  pub restriction_agrees : (x : ℕ) → IsVertex H x → IsSubject G x → Agree G H x
  restriction_agrees x x_in s = agree_around G H (IsVertex H) alike x x_in s (same_retired x x_in)

  of_graph : (v : ℕ) → IsVertex H v → IsVertex G v
  of_graph v h = ap is_some (alike.vertices v h) ∙ h

  -- it has no more vertices and edges
  module _ (in_G : IsGraph G) (in_H : IsGraph H) where
    key_vertex : (v : ℕ) → Contains (map.keys H.vertices) v → IsVertex H v
    key_vertex v h = map.contains_key-keys H.vertices v ∙ is_any (eq_by_cmp nat_cmp v) (map.keys H.vertices) v h (unsigned_tied v v ∙ eq-eqb v v refl)

    listed_too : (v : ℕ) → Contains (map.keys H.vertices) v → Contains (map.keys G.vertices) v
    listed_too v h = vertex_listed G v (of_graph v (key_vertex v h))

    pub no_more_vertices : vertex_count H ≤ vertex_count G
    no_more_vertices =
        let a = ones (map.keys H.vertices) in
        let b = ones (map.keys G.vertices) in
        let c = sum_among (λ (v : ℕ). 1) (λ (v : ℕ). 1) (map.keys H.vertices) (map.keys G.vertices) (keys_occur_once H) (λ v h. (listed_too v h, omega arith)) in
        omega (arith, a, b, c)

    pub no_more_edges : edge_count H ≤ edge_count G
    no_more_edges =
        sum_among (λ (v : ℕ). length (edges_of H v)) (λ (v : ℕ). length (edges_of G v)) (map.keys H.vertices) (map.keys G.vertices) (keys_occur_once H) (λ v h. (
          listed_too v h,
          let same = ap length (same_edges G H v in_G in_H (λ y. alike.labels v y (key_vertex v h))) in omega (arith, same),
        ))

    -- with as many vertices it has them all
    pub all_kept : vertex_count H ≡ vertex_count G → (v : ℕ) → IsVertex G v → IsVertex H v
    all_kept count v v_in = by (map.contains_key H.vertices v) refl where
      by : (b : Bool) → map.contains_key H.vertices v ≡ b → IsVertex H v
      by true is = is
      by false is = absurd (
          let more = sum_among (λ (w : ℕ). 1) (λ (w : ℕ). 1) (v ∷ map.keys H.vertices) (map.keys G.vertices)
          (λ h. true≢false (sym (key_vertex v h) ∙ is), keys_occur_once H)
          (λ w h. (elim h as (λ _. Contains (map.keys G.vertices) w) [ inl same ↦ subst (Contains (map.keys G.vertices)) (sym same) (vertex_listed G v v_in) | inr there ↦ listed_too w there ], omega arith)) in
          let a = ones (v ∷ map.keys H.vertices) in
          let b = ones (map.keys G.vertices) in
          omega (arith, a, b, more, count))

    -- so it is the graph, if all who have retired are vertices
    pub whole : vertex_count H ≡ vertex_count G → ((v : ℕ) → has_retired G v ≡ true → IsVertex G v) → H ≡ G
    whole count were = λ i. record { vertices = sym vertices i; next = r.next i; triples = sym triples i; names = sym alike.names i; retired = sym retired i } where
      all : (v : ℕ) → IsVertex G v → IsVertex H v
      all = all_kept count

      vertices : G.vertices ≡ H.vertices
      vertices = map.same_map nat_cmp_total map.nat_cmp-IsAntisymmetric _ _ (λ v.
          same_option (vertex G v) (vertex H v)
          (λ e is. sym (alike.vertices v (all v (ap is_some is))) ∙ is)
          (λ e is. alike.vertices v (ap is_some is) ∙ is))

      labels : (x y : ℕ) → label G x y ≡ label H x y
      labels x y = same_label (label G x y) (label H x y)
          (λ some. alike.labels x y (all x (edge_from G in_G x y some)))
          (λ some. sym (alike.labels x y (edge_from H in_H x y some)))

      triples : G.triples ≡ H.triples
      triples = same_triples _ _ (λ t. contains-label G t ∙ ap (λ l. has l t.right) (labels t.from t.to) ∙ sym (contains-label H t))

      retired : G.retired ≡ H.retired
      retired = set.same_set nat_cmp_total set.nat_cmp-IsAntisymmetric _ _ (λ v.
          same_bool (has_retired G v) (has_retired H v) (λ t. (r.retired v).1 (all v (were v t), t)) (λ t. ((r.retired v).0 t).1))

    module _ (x : ℕ) (s : IsSubject H x) where
      x_there : IsVertex H x
      x_there = IsVertex-from_kind H x kind.Subject s

      subject : IsSubject G x
      subject = ap (option_map (λ e. e.kind)) (alike.vertices x x_there) ∙ s

      judged : (c : Command) (o : Outcome) → Judged H x c o → Judged G x c o
      judged c o = Judged-agrees H G x c o (agree_back G H x (restriction_agrees x x_there subject))

      step : (v z : ℕ) → IsVertex H v → IsEdge H v z → IsVertex H z
      step v z k e = edge_to H in_H v z e

      -- what makes an edge in it makes one in the graph
      new_edge : (d : Does) → Entitled H (IsVertex H) step x x_there d → NewEdge H d → NewEdge G d
      new_edge (effect.Joins from α to) h new = λ e. new (ap is_none (sym (alike.labels from to h.0)) ∙ e)
      new_edge (effect.Makes k α name) h new = subst (λ (n : ℕ). n ≤ last_serial) r.next new
      new_edge _ h new = new

      full : (limits : Limits) (c : Command) (w : Which) → Allowed H x c → MayBeFull limits H x c w → MayBeFull limits G x c w
      full limits c which.Serials a m = (m.0, subst (λ (n : ℕ). last_serial < n) r.next m.1)
      full limits c which.Slots a m = (m.0, subst (λ (n : ℕ). n ≤ last_serial) r.next m.1, (let most = m.2 in let fewer = no_more_vertices in omega (arith, most, fewer)))
      full limits c which.Cells a m = (
        new_edge (terms x c).does (entitled H (IsVertex H) step x x_there c a) m.0,
        (let most = m.1 in let fewer = no_more_edges in omega (arith, most, fewer)),
      )

      pub restriction_permits : (limits : Limits) (c : Command) (o : Outcome) → Permitted limits H x c o → Permitted limits G x c o
      restriction_permits limits c outcome.Allowed p = (judged c outcome.Allowed p.0, λ new. subst (λ (n : ℕ). n ≤ last_serial) r.next (p.1 new))
      restriction_permits limits c (outcome.Denied rule why) p = judged c (outcome.Denied rule why) p
      restriction_permits limits c (outcome.Full w) p = (judged c outcome.Allowed p.0, full limits c w p.0 p.1)

      -- what it answers, the graph answers
      replied : (d : Does) → Entitled H (IsVertex H) step x x_there d → answered G d ≡ answered H d
      replied (effect.Makes k α name) h = ap (λ (n : ℕ). reply.Created n) (sym r.next)
      replied (effect.Tells over) h = ap (λ (v : Option Vertex). reply.Text (option_map_or (λ e. e.text) v [])) (alike.vertices over h)
      replied (effect.Lists at) h = ap (λ (es : List (ℕ × Letters)). reply.Edges es) (same_edges G H at in_G in_H (λ y. alike.labels at y h))
      replied _ h = refl

      pub restriction_replies : (limits : Limits) (c : Command) (o : Outcome) → Permitted limits H x c o → reply_of G x c o ≡ reply_of H x c o
      restriction_replies limits c outcome.Allowed p = replied (terms x c).does (entitled H (IsVertex H) step x x_there c p.0)
      restriction_replies limits c _ p = refl

      -- who is known afterwards is a vertex, and the other way round
      abbrev Known : Does → ℕ → Type 0
      Known d = known_after G H (IsVertex H) alike x x_there (of_graph x x_there) in_G d

      vertex_known : (d : Does) (v : ℕ) → IsVertex (done H x d) v → Known d v
      vertex_known = into G H alike x x_there (of_graph x x_there) in_G (sym r.next)

      known_vertex : (d : Does) (v : ℕ) → Known d v → IsVertex (done H x d) v
      known_vertex = out G H alike x x_there (of_graph x x_there) in_G (sym r.next)

      next_too : (d : Does) → (done H x d).next ≡ (done G x d).next
      next_too (effect.Makes k α name) = ap (λ (n : ℕ). n + 1) r.next
      next_too (effect.Rewrites over text) = with_text-next H over text (vertex H over) ∙ r.next ∙ sym (with_text-next G over text (vertex G over))
      next_too _ = r.next

      -- who has retired afterwards was a vertex
      retired_there : (v : ℕ) (d : Does) → has_retired (done H x d) v ≡ true → IsVertex H v
      retired_there v (effect.Rewrites over text) t = ((r.retired v).0 (ap (λ (rs : set.FinSet nat_cmp). set.contains rs v) (sym (with_text-retired H over text (vertex H over))) ∙ t)).0
      retired_there v effect.Retires t = elim (or_cases (eq_by_cmp nat_cmp v x) (set.contains H.retired v) (sym (set.contains-insert nat_cmp_total H.retired x v) ∙ t)) [
        | inl is ↦ subst (IsVertex H) (sym (eqb-true v x (sym (unsigned_tied v x) ∙ is))) x_there
        | inr old ↦ ((r.retired v).0 old).0
      ]
      retired_there v _ t = ((r.retired v).0 t).0

      known_there : (v : ℕ) (d : Does) → Known d v → has_retired (done G x d) v ≡ true → IsVertex H v
      known_there v (effect.Makes kd α name) (inl k) t = k
      known_there v (effect.Makes kd α name) (inr is) t = absurd (let low : v < G.next = in_G.roll.past v t in omega (arith, low, is))
      known_there v _ k t = k

      retired_too : (v : ℕ) (d : Does) → IsVertex H v → has_retired (done G x d) v ≡ has_retired (done H x d) v
      retired_too v d v_in = done-retired G H x v (same_retired v v_in) d

      -- a graph is alike to another if those who have retired are told otherwise
      told_otherwise : (K L : Protection) (IsKnown : ℕ → Type 0) → Alike K L IsKnown → Alike (record K { retired = L.retired }) L IsKnown
      unfolding label
      told_otherwise K L IsKnown both = record { labels = both.labels; vertices = both.vertices; step = both.step; names = both.names }

      carried_out : (c : Command) → Allowed H x c → IsRestriction (after G x c) (after H x c) (IsVertex (after H x c))
      carried_out c a =
          let d : Does = (terms x c).does in
          let both = alike_after G H (IsVertex H) alike x x_there (of_graph x x_there) in_G c in_H (sym r.next) (judged c outcome.Allowed a) in
          record {
            kept = λ v. (λ h. h, λ h. h);
            part = part_of (record (after G x c) { retired = (after H x c).retired }) (after H x c) (Known d) (told_otherwise (after G x c) (after H x c) (Known d) both) (vertex_known d) (known_vertex d) refl;
            retired = λ v. (
              λ t. let v_in = retired_there v d t in (known_vertex d v (still_known G H (IsVertex H) alike x x_there (of_graph x x_there) in_G d v v_in), retired_too v d v_in ∙ t),
              λ h. sym (retired_too v d (known_there v d (vertex_known d v h.0) h.1)) ∙ h.1,
            );
            next = next_too d;
          }

      pub restriction_stays : (limits : Limits) (c : Command) (o : Outcome) → Permitted limits H x c o → IsRestriction (next_graph G x c o) (next_graph H x c o) (IsVertex (next_graph H x c o))
      restriction_stays limits c outcome.Allowed p = carried_out c p.0
      restriction_stays limits c _ p = r
