-- what a command adds to the graph of the history
use Rattle.std.proofs.Common.{◌≡◌, ℕ, ◌+◌, ◌≤◌, ◌⊎◌, inl, inr, [], cond, refl, sym, ap, subst, ◌∙◌, Some, arith}
use Rattle.std.specs.FinSet as set
use Rattle.std.proofs.lemmas.Bool.{or_right}
use Rattle.tg_rights.specs.declared.kind.Kind.TheVariants as kind
use Rattle.tg_rights.specs.declared.command.Command.{Command}
use Rattle.tg_rights.specs.declared.command.Command.TheVariants as command
use Rattle.tg_rights.specs.declared.outcome.Outcome.{Outcome}
use Rattle.tg_rights.specs.declared.outcome.Outcome.TheVariants as outcome
use Rattle.tg_graph.specs.declared.vertex.Vertex.{Vertex}
use Rattle.tg_graph.specs.Promise.Protection.{without_member, Protection, IsGraph, IsVertex, vertex, label}
use Rattle.tg_graph.specs.Promise.Terms as effect
use Rattle.tg_graph.specs.Promise.Terms.{Does, terms}
use Rattle.tg_graph.specs.Promise.Fullness.{vertex_count, edge_count}
use Rattle.tg_graph.specs.Promise.Rules.{Allowed, done, is_new, next_graph}
use Rattle.tg_graph.proofs.EdgesAreCountedLemmas.{edge_count-union, edge_count-difference, edge_count-new}
use Rattle.tg_graph.proofs.FullnessLemmas.{vertex_count-again, edge_count-again, vertex_count-new}
use Rattle.tg_graph.proofs.ProtectionLemmas.{Entitled, edge_to, entitled, includes_some}
use Rattle.tg_graph.proofs.VertexLemmas.{IsVertex-insert, with_text-document, with_text-next}
use Rattle.tg_vault.specs.Promise.World.{new_target, slots_taken, target_of}
use Rattle.tg_vault.specs.Inner.CarriedOut.{CellsMoved, EdgeMoves}
use Rattle.tg_vault.proofs.EdgeLemmas.{edge_count_among}

-- the next serial depends only on the effect
done_next : (G H : Protection) (x : ℕ) (d : Does) → G.next ≡ H.next → (done G x d).next ≡ (done H x d).next
done_next G H x (effect.Makes k α name) is = ap (λ n. n + 1) is
done_next G H x (effect.Rewrites over text) is = with_text-next G over text (vertex G over) ∙ is ∙ sym (with_text-next H over text (vertex H over))
done_next G H x _ is = is

pub next_same : (G H : Protection) (x : ℕ) (c : Command) (o : Outcome) → G.next ≡ H.next → (next_graph G x c o).next ≡ (next_graph H x c o).next
next_same G H x c outcome.Allowed is = done_next G H x (terms x c).does is
next_same G H x c _ is = is

done_grows : (G : Protection) (x : ℕ) (d : Does) → G.next ≤ (done G x d).next
done_grows G x (effect.Rewrites over text) = let same = with_text-next G over text (vertex G over) in omega arith
done_grows G x _ = omega arith

pub next_grows : (G : Protection) (x : ℕ) (c : Command) (o : Outcome) → G.next ≤ (next_graph G x c o).next
next_grows G x c outcome.Allowed = done_grows G x (terms x c).does
next_grows G x c _ = omega arith

-- a target is the same in graphs with the same next serial
new_target_same : (G H : Protection) (d : Does) → G.next ≡ H.next → new_target G d ≡ new_target H d
new_target_same G H (effect.Makes k α name) is = ap (λ n. Some n) is
new_target_same G H _ is = refl

pub target_same : (G H : Protection) (x : ℕ) (c : Command) (o : Outcome) → G.next ≡ H.next → target_of G x c o ≡ target_of H x c o
target_same G H x c outcome.Allowed is = new_target_same G H (terms x c).does is
target_same G H x c _ is = refl

module _ (G : Protection) (g : IsGraph G) (x : ℕ) (x_in : IsVertex G x) where
  -- what an allowed command takes for granted
  abbrev Given : Does → Type 0
  Given d = Entitled G (IsVertex G) (λ v z k e. edge_to G g v z e) x x_in d

  given : (c : Command) → Allowed G x c → Given (terms x c).does
  given c a = entitled G (IsVertex G) (λ v z k e. edge_to G g v z e) x x_in c a

  -- a vertex stays
  done_stays : (d : Does) → Given d → (v : ℕ) → IsVertex G v → IsVertex (done G x d) v
  done_stays (effect.Makes k α name) h v is = IsVertex-insert G.vertices G.next (record { kind = k; text = [] }) v ∙ or_right _ _ is
  done_stays (effect.Rewrites over text) h v is =
      subst (λ (K : Protection). IsVertex K v) (sym (with_text-document G over text h.1))
      (IsVertex-insert G.vertices over (record { kind = kind.Document; text = text }) v ∙ or_right _ _ is)
  done_stays _ h v is = is

  -- a create adds one vertex
  done_vertices : (d : Does) → Given d → vertex_count (done G x d) ≡ vertex_count G + cond (is_new d) 1 0
  done_vertices (effect.Makes k α name) h = vertex_count-new G (record { kind = k; text = [] }) g
  done_vertices (effect.Rewrites over text) h =
      let told : Vertex = record { kind = kind.Document; text = text } in
      let same = ap vertex_count (with_text-document G over text h.1) ∙ vertex_count-again G over told h.0 in
      omega arith
  done_vertices _ h = omega arith

  -- free cells and edges change by the same
  done_edges : (d : Does) (before after : ℕ) → Given d → EdgeMoves G before after x d → after + edge_count (done G x d) ≡ before + edge_count G
  done_edges (effect.Joins from α to) before after h moved = let counted = edge_count-union G from to α h.0 h.1 in omega arith
  done_edges (effect.Makes k α name) before after h moved = let counted = edge_count-new G x α (record { kind = k; text = [] }) name g x_in h.0 in omega arith
  done_edges (effect.Drops α over) before after h moved =
      let there : IsVertex G over = edge_to G g x over (includes_some (label G x over) α h.0 h.1) in
      let counted = edge_count-difference G x over α x_in there in
      omega arith
  done_edges (effect.Rewrites over text) before after h moved =
      let told : Vertex = record { kind = kind.Document; text = text } in
      let same = ap edge_count (with_text-document G over text h.1) ∙ edge_count-again G over told h.0 in
      omega arith
  done_edges effect.Retires before after h moved = let same = edge_count_among G (without_member G.names x) (set.insert G.retired x) in omega arith
  done_edges _ before after h moved = omega arith

-- the same of an entry, if its actor is a vertex where the rules allow the command, or leaves
module _ (G : Protection) (g : IsGraph G) (x : ℕ) (c : Command) where
  abbrev pub Carried : Outcome → Type 0
  Carried o = o ≡ outcome.Allowed → (IsVertex G x × Allowed G x c) ⊎ (c ≡ command.Leave)

  pub vertex_stays : (o : Outcome) → Carried o → (v : ℕ) → IsVertex G v → IsVertex (next_graph G x c o) v
  vertex_stays outcome.Allowed a v is = elim (a refl) [
    | inl h ↦ done_stays G g x h.0 (terms x c).does (given G g x h.0 c h.1) v is
    | inr leaves ↦ subst (λ k. IsVertex (next_graph G x k outcome.Allowed) v) (sym leaves) is
  ]
  vertex_stays _ a v is = is

  pub vertices_counted : (o : Outcome) → Carried o → vertex_count (next_graph G x c o) ≡ vertex_count G + slots_taken x c o
  vertices_counted outcome.Allowed a = elim (a refl) [
    | inl h ↦ done_vertices G g x h.0 (terms x c).does (given G g x h.0 c h.1)
    | inr leaves ↦ subst (λ k. vertex_count (next_graph G x k outcome.Allowed) ≡ vertex_count G + slots_taken x k outcome.Allowed) (sym leaves) (omega arith)
  ]
  vertices_counted _ a = omega arith

  pub edges_counted : (o : Outcome) (before after : ℕ) → Carried o → CellsMoved G before after x c o → after + edge_count (next_graph G x c o) ≡ before + edge_count G
  edges_counted outcome.Allowed before after a moved = elim (a refl) [
    | inl h ↦ done_edges G g x h.0 (terms x c).does before after (given G g x h.0 c h.1) moved
    | inr leaves ↦
        subst (λ k. CellsMoved G before after x k outcome.Allowed → after + edge_count (next_graph G x k outcome.Allowed) ≡ before + edge_count G) (sym leaves) (λ (same : after ≡ before). omega arith) moved
  ]
  edges_counted _ before after a moved = omega arith
