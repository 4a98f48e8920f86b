-- Two graphs that are alike on some vertices stay so when the same command is carried out in both.
use Rattle.std.proofs.Common.{◌≡◌, ℕ, ◌<◌, ◌+◌, ◌∷◌, [], ◌++◌, List, Bool, true, false, cond, not, ◌||◌, refl, sym, ap, subst, ◌∙◌, Some, None, ◌==◌, ◌&&◌, ◌⊎◌, inl, inr, arith}
use Rattle.std.specs.Prelude.{Option}
use Rattle.std.specs.Option.{option_map, is_some}
use Rattle.std.specs.Ordering.{nat_cmp, eq_by_cmp}
use Rattle.std.specs.Cmp.{nat_cmp_total, unsigned_tied}
use Rattle.std.specs.FinMap as map
use Rattle.std.specs.FinSet as set
use Rattle.std.proofs.lemmas.Bool.{eqb-true, eq-eqb, and_parts, false_from_ne_true, ne_eqb, or_cases, or_left, or_right}
use Rattle.tg_rights.specs.Promise.Letters.{Letters, Right, none, rights_where, joined, without, is_none}
use Rattle.tg_rights.specs.declared.kind.Kind.{Kind}
use Rattle.tg_rights.specs.declared.kind.Kind.TheVariants as kind
use Rattle.tg_rights.specs.declared.command.Command.{Command}
use Rattle.tg_graph.specs.Promise.Terms as effect
use Rattle.tg_graph.specs.Promise.Terms.{Does, terms}
use Rattle.tg_graph.specs.declared.vertex.Vertex.{Vertex}
use Rattle.tg_graph.specs.Promise.Protection.{Triples, edge, with_member, without_member, Protection, IsGraph, IsVertex, IsSubject, IsEdge, has_retired, vertex, label, Agree, IsPart, Leads, Reaches}
use Rattle.tg_graph.specs.Promise.Rules.{Allowed, after, done, with_text}
use Rattle.tg_graph.proofs.LabelLemmas.{Relabels, union-Relabels, difference-Relabels}
use Rattle.tg_graph.proofs.VertexLemmas.{IsDocument, IsVertex-from_kind, IsVertex-insert, with_text-document}
use Rattle.tg_graph.proofs.ProtectionLemmas.{Entitled, entitled}
use Rattle.tg_graph.proofs.OutcomesAgreeLemmas.{leads_on}
use Rattle.tg_graph.proofs.CommandsKeepGraphsLemmas.{subject_stays}

-- the labels of a relabelled set
pub label-relabelled : (G K : Protection) (x y : ℕ) (l : Letters) → Relabels G x y l K.triples → (v z : ℕ) → label K v z ≡ cond ((x == v) && (y == z)) l (label G v z)
unfolding label
label-relabelled G K x y l relabels v z = λ i. rights_where (λ r. relabels (record { from = v; right = r; to = z }) i)

-- the known vertices have the same kind, text and labels in both graphs, their edges lead to known ones, and the same
-- principals are active
pub record Alike (G H : Protection) (Known : ℕ → Type 0) : Type 0 where
  pub labels : (v z : ℕ) → Known v → label G v z ≡ label H v z
  pub vertices : (v : ℕ) → Known v → vertex G v ≡ vertex H v
  pub step : (v z : ℕ) → Known v → IsEdge G v z → Known z
  pub names : G.names ≡ H.names

-- graphs agree for each known subject
module _ (G H : Protection) (Known : ℕ → Type 0) (alike : Alike G H Known) where
  along : (later : List ℕ) (x y : ℕ) → Known x → Leads G x later y → Leads H x later y × Known y
  along [] x y k e = (e, subst Known e k)
  along (z ∷ zs) x y k p =
      let r = along zs z y (alike.step x z k p.0) p.1 in
      ((sym (ap is_none (alike.labels x z k)) ∙ p.0, r.0), r.1)

  back : (later : List ℕ) (x y : ℕ) → Known x → Leads H x later y → Leads G x later y
  back [] x y k e = e
  back (z ∷ zs) x y k p =
      let e : IsEdge G x z = ap is_none (alike.labels x z k) ∙ p.0 in
      (e, back zs z y (alike.step x z k e) p.1)

  pub agree_around : (q : ℕ) → Known q → IsSubject G q → has_retired G q ≡ has_retired H q → Agree G H q
  agree_around q k s retired = record {
    subject = s;
    subject_too = ap (option_map (λ e. e.kind)) (sym (alike.vertices q k)) ∙ s;
    paths = λ later y. (
      λ p. (ap is_some (sym (alike.vertices q k)) ∙ p.0, (along later q y k p.1).0),
      λ p. (ap is_some (alike.vertices q k) ∙ p.0, back later q y k p.1),
    );
    vertices = λ later y p. alike.vertices y (along later q y k p.1).1;
    labels = λ later y z p. alike.labels y z (along later q y k p.1).1;
    names = alike.names;
    retired = retired;
  }

-- and the other way round
pub agree_back : (G H : Protection) (x : ℕ) → Agree G H x → Agree H G x
agree_back G H x a = record {
  subject = a.subject_too;
  subject_too = a.subject;
  paths = λ later y. ((a.paths later y).1, (a.paths later y).0);
  vertices = λ later y p. sym (a.vertices later y ((a.paths later y).1 p));
  labels = λ later y z p. sym (a.labels later y z ((a.paths later y).1 p));
  names = sym a.names;
  retired = sym a.retired;
}

some_joined : (b : Bool) (l m k : Letters) → is_none (cond b l m) ≡ false → (b ≡ true) ⊎ (is_none m ≡ false)
some_joined true l m k e = inl refl
some_joined false l m k e = inr e

module _ (G H : Protection) (Known : ℕ → Type 0) (alike : Alike G H Known) where
  -- an edge of a known vertex gets another label in both
  relabelled_too : (t u : Triples) (s y : ℕ) (f : Letters → Letters) → Known s → Relabels G s y (f (label G s y)) t → Relabels H s y (f (label H s y)) u
      → ((w z : ℕ) → Known w → is_none (cond ((s == w) && (y == z)) (f (label G s y)) (label G w z)) ≡ false → Known z)
      → Alike (record G { triples = t }) (record H { triples = u }) Known
  relabelled_too t u s y f source by_G by_H step =
      let in_G = label-relabelled G (record G { triples = t }) s y (f (label G s y)) by_G in
      let in_H = label-relabelled H (record H { triples = u }) s y (f (label H s y)) by_H in
      record {
        labels = λ w z k. in_G w z ∙ (λ i. cond ((s == w) && (y == z)) (f (alike.labels s y source i)) (alike.labels w z k i)) ∙ sym (in_H w z);
        vertices = alike.vertices;
        step = λ w z k e. step w z k (ap is_none (sym (in_G w z)) ∙ e);
        names = alike.names;
      }

  -- an edge between known vertices gains rights
  joined_too : (s y : ℕ) (α : Letters) → Known s → Known y →
      Alike (record G { triples = set.union G.triples (edge s α y) }) (record H { triples = set.union H.triples (edge s α y) }) Known
  joined_too s y α source target =
      relabelled_too (set.union G.triples (edge s α y)) (set.union H.triples (edge s α y)) s y (λ l. joined l α) source (union-Relabels G s y α) (union-Relabels H s y α)
      (λ w z k e. elim (some_joined ((s == w) && (y == z)) (joined (label G s y) α) (label G w z) α e) [
        | inl t ↦ subst Known (eqb-true y z (and_parts (s == w) (y == z) t).1) target
        | inr old ↦ alike.step w z k old
      ])

  -- an edge of a known vertex loses rights
  less_edge : (b : Bool) (l m α : Letters) → is_none (cond b (without l α) m) ≡ false → (b ≡ true → m ≡ l) → is_none m ≡ false
  less_edge true l m α e same = ap is_none (same refl) ∙ fewer l α e where
    fewer : (l α : Letters) → is_none (without l α) ≡ false → is_none l ≡ false
    fewer l α e = some l.read l.write l.take l.grant α.read α.write α.take α.grant e where
      some : (r w t g r' w' t' g' : Bool) → (not (r && not r') && not (w && not w') && not (t && not t') && not (g && not g')) ≡ false → (not r && not w && not t && not g) ≡ false
      some r w t g r' w' t' g' e = grind arith
  less_edge false l m α e same = e

  less_too : (s y : ℕ) (α : Letters) → Known s →
      Alike (record G { triples = set.difference G.triples (edge s α y) }) (record H { triples = set.difference H.triples (edge s α y) }) Known
  less_too s y α source =
      relabelled_too (set.difference G.triples (edge s α y)) (set.difference H.triples (edge s α y)) s y (λ l. without l α) source (difference-Relabels G s y α) (difference-Relabels H s y α)
      (λ w z k e. alike.step w z k (less_edge ((s == w) && (y == z)) (label G s y) (label G w z) α e
      (λ t. let is = and_parts (s == w) (y == z) t in λ i. label G (sym (eqb-true s w is.0) i) (sym (eqb-true y z is.1) i))))

  -- the vertex v is put into both
  put_alike : (v : ℕ) (e : Vertex) (w : ℕ) → vertex G w ≡ vertex H w → map.get (map.insert G.vertices v e) w ≡ map.get (map.insert H.vertices v e) w
  put_alike v e w same = map.get-insert nat_cmp_total G.vertices v e w ∙ ap (cond (eq_by_cmp nat_cmp w v) (Some e)) same ∙ sym (map.get-insert nat_cmp_total H.vertices v e w)

  -- a vertex gets the same text in both
  text_too : (y : ℕ) (e : Vertex) → Alike (record G { vertices = map.insert G.vertices y e }) (record H { vertices = map.insert H.vertices y e }) Known
  unfolding label
  text_too y e = record { labels = alike.labels; vertices = λ w k. put_alike y e w (alike.vertices w k); step = alike.step; names = alike.names }

  -- x is a principal of neither any longer
  retired_too : (x : ℕ) → Alike (record G { names = without_member G.names x; retired = set.insert G.retired x }) (record H { names = without_member H.names x; retired = set.insert H.retired x }) Known
  unfolding label
  retired_too x = record { labels = alike.labels; vertices = alike.vertices; step = alike.step; names = ap (λ ms. without_member ms x) alike.names }

-- a vertex that is not there has no rights
pub no_edge_from : (G : Protection) (z : ℕ) → IsGraph G → label G G.next z ≡ none
unfolding label
no_edge_from G z g = λ i. rights_where (λ r. absent r i) where
  absent : (r : Right) → set.contains G.triples (record { from = G.next; right = r; to = z }) ≡ false
  absent r = false_from_ne_true _ (λ e. let l : G.next < G.next = g.below_next G.next (g.from_vertex (record { from = G.next; right = r; to = z }) e) in absurd (omega arith))

module _ (G H : Protection) (Known : ℕ → Type 0) (alike : Alike G H Known) (x : ℕ) (x_known : Known x) (x_in : IsVertex G x) (in_G : IsGraph G) where
  -- a greater serial is not x
  not_here : (n : ℕ) → x < n → (x == n) ≡ false
  not_here n below = ne_eqb x n (λ is. absurd (omega arith))

  module _ (n : ℕ) (α : Letters) (e : Vertex) (name : Option (List ℕ)) (n_is : G.next ≡ n) (H_next : H.next ≡ n) (in_H : IsGraph H) where
    grown : Protection → Protection
    grown K = record K { vertices = map.insert K.vertices n e; next = n + 1; triples = set.union K.triples (edge x α n); names = with_member K.names name n }

    abbrev grown_known : ℕ → Type 0
    grown_known w = Known w ⊎ (w ≡ n)

    reads : (K : Protection) (w z : ℕ) → label (grown K) w z ≡ cond ((x == w) && (n == z)) (joined (label K x n) α) (label K w z)
    unfolding grown
    reads K = label-relabelled K (grown K) x n (joined (label K x n) α) (union-Relabels K x n α)

    below : x < n
    below = let l : x < G.next = in_G.below_next x x_in in omega arith

    fresh : (K : Protection) → IsGraph K → K.next ≡ n → (w z : ℕ) → w ≡ n → label (grown K) w z ≡ none
    fresh K g K_next w z is =
        reads K w z
        ∙ ap (λ b. cond (b && (n == z)) (joined (label K x n) α) (label K w z)) (ap (λ m. x == m) is ∙ not_here n below)
        ∙ ap (λ m. label K m z) (is ∙ sym K_next) ∙ no_edge_from K z g

    there : (K : Protection) (w : ℕ) → w ≡ n → vertex (grown K) w ≡ Some e
    unfolding grown
    there K w is = map.get-insert nat_cmp_total K.vertices n e w ∙ ap (λ b. cond b (Some e) (vertex K w)) (unsigned_tied w n ∙ eq-eqb w n is)

    grown_labels : (w z : ℕ) → grown_known w → label (grown G) w z ≡ label (grown H) w z
    grown_labels w z (inl k) =
        reads G w z ∙ (λ i. cond ((x == w) && (n == z)) (joined (alike.labels x n x_known i) α) (alike.labels w z k i)) ∙ sym (reads H w z)
    grown_labels w z (inr is) = fresh G in_G n_is w z is ∙ sym (fresh H in_H H_next w z is)

    grown_vertices : (w : ℕ) → grown_known w → vertex (grown G) w ≡ vertex (grown H) w
    unfolding grown
    grown_vertices w (inl k) = put_alike G H Known alike n e w (alike.vertices w k)
    grown_vertices w (inr is) = there G w is ∙ sym (there H w is)

    grown_step : (w z : ℕ) → grown_known w → IsEdge (grown G) w z → grown_known z
    grown_step w z (inl k) edge_in =
        elim (some_joined ((x == w) && (n == z)) (joined (label G x n) α) (label G w z) α (ap is_none (sym (reads G w z)) ∙ edge_in)) [
          | inl t ↦ inr (sym (eqb-true n z (and_parts (x == w) (n == z) t).1))
          | inr old ↦ inl (alike.step w z k old)
        ]
    grown_step w z (inr is) edge_in = absurd (cc (ap is_none (fresh G in_G n_is w z is), edge_in))

    grown_names : (grown G).names ≡ (grown H).names
    unfolding grown
    grown_names = ap (λ ms. with_member ms name n) alike.names

    created : Alike (grown G) (grown H) grown_known
    created = record { labels = grown_labels; vertices = grown_vertices; step = grown_step; names = grown_names }

  -- who is known afterwards: a new vertex too
  abbrev pub known_after : Does → ℕ → Type 0
  known_after (effect.Makes k α name) v = Known v ⊎ (v ≡ G.next)
  known_after _ v = Known v

  new_too : (k : Kind) (α : Letters) (name : Option (List ℕ)) → IsGraph H → G.next ≡ H.next → Alike (done G x (effect.Makes k α name)) (done H x (effect.Makes k α name)) (known_after (effect.Makes k α name))
  unfolding grown
  new_too k α name in_H next =
      let e : Vertex = record { kind = k; text = [] } in
      subst (λ (m : ℕ). Alike (done G x (effect.Makes k α name)) (record H { vertices = map.insert H.vertices m e; next = m + 1; triples = set.union H.triples (edge x α m); names = with_member H.names name m }) (known_after (effect.Makes k α name))) next
      (created G.next α e name refl (sym next) in_H)

  done_alike : (e : Does) → IsGraph H → G.next ≡ H.next → Entitled G Known alike.step x x_known e → Alike (done G x e) (done H x e) (known_after e)
  done_alike (effect.Joins from α to) in_H next h = joined_too G H Known alike from to α h.0 h.1
  done_alike (effect.Makes k α name) in_H next h = new_too k α name in_H next
  done_alike (effect.Drops α over) in_H next h = less_too G H Known alike x over α x_known
  done_alike (effect.Rewrites over text) in_H next h =
      let document_too : IsDocument H over = ap (option_map (λ e. e.kind)) (sym (alike.vertices over h.0)) ∙ h.1 in
      let told : Vertex = record { kind = kind.Document; text = text } in
      subst (λ (K : Protection). Alike K (done H x (effect.Rewrites over text)) Known) (sym (with_text-document G over text h.1))
      (subst (λ (L : Protection). Alike (record G { vertices = map.insert G.vertices over told }) L Known) (sym (with_text-document H over text document_too))
      (text_too G H Known alike over told))
  done_alike effect.Retires in_H next h = retired_too G H Known alike x
  done_alike _ in_H next h = alike

  pub alike_after : (c : Command) → IsGraph H → G.next ≡ H.next → Allowed G x c → Alike (after G x c) (after H x c) (known_after (terms x c).does)
  alike_after c in_H next a = done_alike (terms x c).does in_H next (entitled G Known alike.step x x_known c a)

  pub still_known : (e : Does) (v : ℕ) → Known v → known_after e v
  still_known (effect.Makes k α name) v h = inl h
  still_known _ v k = k

-- who has retired in both or in neither, and still has or has not
pub with_text-retired : (G : Protection) (y : ℕ) (text : List ℕ) (o : Option Vertex) → (with_text G y text o).retired ≡ G.retired
with_text-retired G y text None = refl
with_text-retired G y text (Some e) = refl

pub done-retired : (G H : Protection) (x v : ℕ) → has_retired G v ≡ has_retired H v → (e : Does) → has_retired (done G x e) v ≡ has_retired (done H x e) v
done-retired G H x v same (effect.Rewrites over text) =
    ap (λ (rs : set.FinSet nat_cmp). set.contains rs v) (with_text-retired G over text (vertex G over)) ∙ same
    ∙ ap (λ (rs : set.FinSet nat_cmp). set.contains rs v) (sym (with_text-retired H over text (vertex H over)))
done-retired G H x v same effect.Retires =
    set.contains-insert nat_cmp_total G.retired x v ∙ ap (λ b. eq_by_cmp nat_cmp v x || b) same ∙ sym (set.contains-insert nat_cmp_total H.retired x v)
done-retired G H x v same _ = same

-- what the viewers reach
module _ (G H : Protection) (viewers : set.FinSet nat_cmp) (x : ℕ) (x_in : set.contains viewers x ≡ true) (agree : (v : ℕ) → set.contains viewers v ≡ true → Agree G H v) where
  abbrev Reached : ℕ → Type 0
  Reached v = (q : ℕ) × (set.contains viewers q ≡ true) × Reaches G q v

  viewer : (q : ℕ) → set.contains viewers q ≡ true → Reached q
  viewer q h = (q, h, ([], (IsVertex-from_kind G q kind.Subject (agree q h).subject, refl)))

  reached_alike : Alike G H Reached
  reached_alike = record {
    labels = λ v z k. (agree k.0 k.1).labels k.2.0 v z k.2.1;
    vertices = λ v k. (agree k.0 k.1).vertices k.2.0 v k.2.1;
    step = λ v z k e. (k.0, k.1, (k.2.0 ++ z ∷ [], (k.2.1.0, leads_on G k.2.0 k.0 v z k.2.1.1 e)));
    names = (agree x x_in).names;
  }

  -- graphs that agree for some subjects still agree for them after a command of one of these
  pub kept : IsGraph G → (c : Command) → IsGraph H → G.next ≡ H.next → Allowed G x c → (v : ℕ) → set.contains viewers v ≡ true → Agree (after G x c) (after H x c) v
  kept in_G c in_H next a v v_in =
      let x_there = IsVertex-from_kind G x kind.Subject (agree x x_in).subject in
      let after_both = alike_after G H Reached reached_alike x (viewer x x_in) x_there in_G c in_H next a in
      agree_around (after G x c) (after H x c) (known_after G H Reached reached_alike x (viewer x x_in) x_there in_G (terms x c).does) after_both v
      (still_known G H Reached reached_alike x (viewer x x_in) x_there in_G (terms x c).does v (viewer v v_in)) (subject_stays G x c in_G v (agree v v_in).subject)
      (done-retired G H x v (agree v v_in).retired (terms x c).does)

-- a part, from what is alike and known
pub part_of : (K L : Protection) (Known : ℕ → Type 0) → Alike K L Known → ((v : ℕ) → IsVertex L v → Known v) → ((v : ℕ) → Known v → IsVertex L v) → K.retired ≡ L.retired → IsPart K L
part_of K L Known alike known back retired = record {
  vertices = λ v h. alike.vertices v (known v h);
  labels = λ v w h. alike.labels v w (known v h);
  closed = λ v w h e. back w (alike.step v w (known v h) e);
  names = alike.names;
  retired = retired;
}

-- where all vertices of H are known, all that it has afterwards are
module _ (G H : Protection) (alike : Alike G H (IsVertex H)) (x : ℕ) (x_there : IsVertex H x) (x_in : IsVertex G x) (in_G : IsGraph G) (next : G.next ≡ H.next) where
  told_vertex : (y : ℕ) (text : List ℕ) (o : Option Vertex) → vertex H y ≡ o → (v : ℕ) → IsVertex (with_text H y text o) v → IsVertex H v
  told_vertex y text None is v h = h
  told_vertex y text (Some e) is v h = elim (or_cases _ _ (sym (IsVertex-insert H.vertices y (record e { text = text }) v) ∙ h)) [
    | inl same ↦ ap (λ q. map.contains_key H.vertices q) (eqb-true v y same) ∙ ap is_some is
    | inr old ↦ old
  ]

  vertex_told : (y : ℕ) (text : List ℕ) (o : Option Vertex) (v : ℕ) → IsVertex H v → IsVertex (with_text H y text o) v
  vertex_told y text None v h = h
  vertex_told y text (Some e) v h = IsVertex-insert H.vertices y (record e { text = text }) v ∙ or_right _ _ h

  pub into : (e : Does) (v : ℕ) → IsVertex (done H x e) v → known_after G H (IsVertex H) alike x x_there x_in in_G e v
  into (effect.Makes k α name) v h = elim (or_cases _ _ (sym (IsVertex-insert H.vertices H.next (record { kind = k; text = [] }) v) ∙ h)) [ inl is ↦ inr (eqb-true v H.next is ∙ sym next) | inr old ↦ inl old ]
  into (effect.Rewrites over text) v h = told_vertex over text (vertex H over) refl v h
  into _ v h = h

  pub out : (e : Does) (v : ℕ) → known_after G H (IsVertex H) alike x x_there x_in in_G e v → IsVertex (done H x e) v
  out (effect.Makes k α name) v (inl h) = IsVertex-insert H.vertices H.next (record { kind = k; text = [] }) v ∙ or_right _ _ h
  out (effect.Makes k α name) v (inr is) = IsVertex-insert H.vertices H.next (record { kind = k; text = [] }) v ∙ or_left _ _ (eq-eqb v H.next (is ∙ next))
  out (effect.Rewrites over text) v h = vertex_told over text (vertex H over) v h
  out _ v h = h

-- a part of a graph
module _ (G H : Protection) (part : IsPart G H) where
  part_alike : Alike G H (IsVertex H)
  part_alike = record { labels = λ v z k. part.labels v z k; vertices = part.vertices; step = λ v z k e. part.closed v z k e; names = part.names }

  pub part_agrees : (x : ℕ) → IsVertex H x → IsSubject G x → Agree G H x
  part_agrees x x_in s = agree_around G H (IsVertex H) part_alike x x_in s (ap (λ (rs : set.FinSet nat_cmp). set.contains rs x) part.retired)

  -- the part and the whole stay so when the same command is carried out in both
  pub part_stays : (x : ℕ) (c : Command) → IsGraph G → IsGraph H → G.next ≡ H.next → IsVertex H x → IsVertex G x → Allowed G x c → IsPart (after G x c) (after H x c)
  part_stays x c in_G in_H next x_there x_in a =
      part_of (after G x c) (after H x c) (known_after G H (IsVertex H) part_alike x x_there x_in in_G (terms x c).does) (alike_after G H (IsVertex H) part_alike x x_there x_in in_G c in_H next a)
      (into G H part_alike x x_there x_in in_G next (terms x c).does) (out G H part_alike x x_there x_in in_G next (terms x c).does) (retired_left (terms x c).does) where
        retired_left : (e : Does) → (done G x e).retired ≡ (done H x e).retired
        retired_left (effect.Rewrites over text) = with_text-retired G over text (vertex G over) ∙ part.retired ∙ sym (with_text-retired H over text (vertex H over))
        retired_left effect.Retires = ap (λ rs. set.insert rs x) part.retired
        retired_left _ = part.retired
