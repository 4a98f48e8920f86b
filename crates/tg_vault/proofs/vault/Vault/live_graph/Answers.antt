use Rattle.std.proofs.Common.{List, map, filter, ap, ◌∙◌}
use Rattle.std.specs.Ordering.{nat_cmp}
use Rattle.std.specs.FinSet as set
use Rattle.tg_graph.specs.Promise.Parts.{Listed}
use Rattle.tg_vault.specs.Inner.Rebase.{reopening}
use Rattle.tg_vault.specs.Promise.Contents.{graph_now}
use Rattle.tg_vault.specs.Inner.Contents.{contents}
use Rattle.tg_vault.specs.Promise.Course.{IsCoherent}
use Rattle.tg_vault.proofs.ReopeningLemmas.{AreHeld, are_parts, held_lists, reopening_graph}
use Rattle.tg_vault.proofs.vault.Vault.live_graph.Goals as goal
use Rattle.tg_vault.proofs.vault.Vault.live_graph.Goals.{In_ok-names}

sound : (c : In_ok-names) → IsCoherent (contents c.self.inside)
sound c = record { ties = c.self.invariant.joins; store = c.soundness.ensures.sound }

held : (c : In_ok-names) → AreHeld (contents c.self.inside) (record { vertices = c.in_ok-vertices.vertices; edges = c.in_ok-vertices.edges; names = c.in_ok-names.names; retired = c.in_ok-retired.retired; next = c.self.inside.state.next })
held c = record {
  lists = c.in_ok-vertices.ensures;
  names = c.in_ok-names.ensures ∙ c.as_slice-members.ensures;
  retired =
      c.in_ok-retired.ensures
      ∙ ap (λ (gone : set.FinSet nat_cmp). filter (λ x. set.contains gone x) (map (λ (v : Listed). v.0) c.as_slice-listed.result.now)) c.self.invariant.retired
      ∙ ap (λ (vs : List Listed). filter (λ x. set.contains (graph_now (contents c.self.inside)).retired x) (map (λ (v : Listed). v.0) vs)) c.as_slice-listed.ensures.value;
  next = c.self.invariant.serial;
}

pub from_parts-requires : goal.from_parts-requires
from_parts-requires c =
    let w = (goal.at.from_parts-requires c).In_ok-names in
    are_parts (contents c.self.inside) (sound w) _ (held w)

pub returns : goal.returns
returns c =
    let w = (goal.at.returns c).In_ok-names in
    c.parts_are_one_graph.ensures _ c.in_ok-graph.graph (reopening (contents c.self.inside)) c.in_ok-graph.ensures.graph (reopening_graph (contents c.self.inside) (sound w)) c.in_ok-graph.ensures.lists
    (held_lists (contents c.self.inside) (sound w) _ (held w))
    ∙ ap reopening c.self.view_is
