-- Edges of what a store holds, as triples and as labels, whoever is a principal.
use Rattle.std.proofs.Common.{◌≡◌, ℕ, Bool, false, not, cond, refl, ◌∙◌, ◌&&◌, ◌||◌, arith}
use Rattle.std.specs.Prelude.{List}
use Rattle.std.specs.Ordering.{nat_cmp}
use Rattle.std.specs.FinSet as finset
use Rattle.std.proofs.lemmas.Bool.{eq-eqb}
use Rattle.tg_rights.specs.Promise.Letters.{Letters, is_none, joined, without}
use Rattle.tg_graph.specs.declared.member.Member.{Member}
use Rattle.tg_graph.specs.Promise.Protection.{edge, Protection, IsEdge, label}
use Rattle.tg_graph.specs.Promise.Fullness.{edge_count}
use Rattle.tg_graph.specs.Promise.Rules.{edges_of}
use Rattle.tg_graph.proofs.LabelLemmas.{difference-Relabels}
use Rattle.tg_graph.proofs.PartsStayLemmas.{label-relabelled}
use Rattle.tg_collect.specs.Promise.Stored.{Stored}
use Rattle.tg_collect.specs.Promise.Readings.{held}
use Rattle.tg_vault.specs.Inner.Seen.{graph_seen}

-- labels and edges depend neither on the next serial nor on who is a principal
module _ (s : Stored) (n m : ℕ) (names : List Member) (retired : finset.FinSet nat_cmp) where
  pub label_seen : (x y : ℕ) → label (graph_seen s n names retired) x y ≡ label (held s m) x y
  unfolding label
  label_seen x y = refl

  pub edges_seen : (z : ℕ) → edges_of (graph_seen s n names retired) z ≡ edges_of (held s m) z
  unfolding edges_of label
  edges_seen z = refl

  pub edge_count_seen : edge_count (graph_seen s n names retired) ≡ edge_count (held s m)
  unfolding edges_of label
  edge_count_seen = refl

  pub edge_seen : (x y : ℕ) → IsEdge (held s m) x y → IsEdge (graph_seen s n names retired) x y
  unfolding label
  edge_seen x y e = e

  pub seen_edge : (x y : ℕ) → IsEdge (graph_seen s n names retired) x y → IsEdge (held s m) x y
  unfolding label
  seen_edge x y e = e

pub edge_count_among : (G : Protection) (names : List Member) (retired : finset.FinSet nat_cmp) → edge_count (record G { names = names; retired = retired }) ≡ edge_count G
unfolding edges_of label
edge_count_among G names retired = refl

pub joined_some : (l α : Letters) → is_none α ≡ false → is_none (joined l α) ≡ false
joined_some l α some = by l.read l.write l.take l.grant α.read α.write α.take α.grant some where
  by : (r w t g r' w' t' g' : Bool) → (not r' && not w' && not t' && not g') ≡ false → (not (r || r') && not (w || w') && not (t || t') && not (g || g')) ≡ false
  by r w t g r' w' t' g' e = grind arith

-- the label of an edge that lost rights
pub label_cut : (G : Protection) (x y : ℕ) (α : Letters) → label (record G { triples = finset.difference G.triples (edge x α y) }) x y ≡ without (label G x y) α
label_cut G x y α =
    label-relabelled G (record G { triples = finset.difference G.triples (edge x α y) }) x y (without (label G x y) α) (difference-Relabels G x y α) x y
    ∙ (λ i. cond (eq-eqb x x refl i && eq-eqb y y refl i) (without (label G x y) α) (label G x y))
