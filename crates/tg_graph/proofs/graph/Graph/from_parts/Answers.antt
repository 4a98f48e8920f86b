use Rattle.std.proofs.Common.{◌∙◌, ap, map, subst, sym}
use Rattle.std.specs.List.{list_any}
use Rattle.std.specs.Ordering.{eq_by_cmp, nat_cmp}
use Rattle.tg_graph.specs.Promise.Parts.{Before, Rises}
use Rattle.tg_graph.specs.Inner.Parts.{label_entry}
use Rattle.tg_graph.proofs.PartsLemmas.{made_IsGraph, made_lists}
use Rattle.tg_graph.proofs.graph.Graph.from_parts.Goals as goal

pub vertices_of-requires : goal.vertices_of-requires
vertices_of-requires c = c.requires.vertices

pub labels_of-requires : goal.labels_of-requires
labels_of-requires c = subst (Rises Before) (sym c.as_slice-listed.ensures.value) c.requires.edges

pub of_pairs-requires : goal.of_pairs-requires
of_pairs-requires c = c.requires.few

pub invariant_of-result : goal.invariant_of-result
invariant_of-result c =
    made_IsGraph c.args.parts c.requires c.in_ok-vertices.vertices.entries c.in_ok-labels.labels.entries c.in_ok-roll.roll c.in_ok-retired.retired.keys c.in_ok-vertices.ensures (c.in_ok-labels.ensures ∙ ap (map label_entry) c.as_slice-listed.ensures.value) c.in_ok-roll.ensures.same c.in_ok-roll.ensures.rising
    (λ q. c.in_ok-retired.ensures q ∙ ap (list_any (eq_by_cmp nat_cmp q)) c.as_slice-gone.ensures.value)

pub returns-clause-lists : goal.returns-clause-lists
returns-clause-lists c =
    made_lists c.args.parts c.requires c.in_ok-vertices.vertices.entries c.in_ok-labels.labels.entries c.in_ok-roll.roll c.in_ok-retired.retired.keys c.in_ok-vertices.ensures (c.in_ok-labels.ensures ∙ ap (map label_entry) c.as_slice-listed.ensures.value) c.in_ok-roll.ensures.same c.in_ok-roll.ensures.rising
    (λ q. c.in_ok-retired.ensures q ∙ ap (list_any (eq_by_cmp nat_cmp q)) c.as_slice-gone.ensures.value)

pub returns-clause-graph : goal.returns-clause-graph
returns-clause-graph c =
    made_IsGraph c.args.parts c.requires c.in_ok-vertices.vertices.entries c.in_ok-labels.labels.entries c.in_ok-roll.roll c.in_ok-retired.retired.keys c.in_ok-vertices.ensures (c.in_ok-labels.ensures ∙ ap (map label_entry) c.as_slice-listed.ensures.value) c.in_ok-roll.ensures.same c.in_ok-roll.ensures.rising
    (λ q. c.in_ok-retired.ensures q ∙ ap (list_any (eq_by_cmp nat_cmp q)) c.as_slice-gone.ensures.value)
