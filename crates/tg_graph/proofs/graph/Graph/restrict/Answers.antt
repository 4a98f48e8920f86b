use Rattle.std.proofs.Common.{sym, subst}
use Rattle.tg_lists.specs.Promise.Membership.{Contains}
use Rattle.tg_graph.specs.Promise.Protection.{IsClosed, IsRestriction, Protection}
use Rattle.tg_graph.specs.Inner.Views.{protection_of}
use Rattle.tg_graph.proofs.RestrictingLemmas.{is_restricted, restricted_graph}
use Rattle.tg_graph.proofs.graph.Graph.restrict.Goals as goal

pub invariant_of-self : goal.invariant_of-self
invariant_of-self c =
    restricted_graph _ _ _ _ _ _ _ _ c.args.kept.now c.self.invariant
    (subst (λ (G : Protection). IsClosed G (Contains c.args.kept.now)) (sym c.self.view_is) c.requires.closed)
    c.keep_vertices.ensures c.keep_labels.ensures c.keep_retired.ensures

pub returns-clause-restricted : goal.returns-clause-restricted
returns-clause-restricted c =
    subst (λ (G : Protection). IsRestriction G (protection_of c.keep_vertices.new.vertices.entries c.keep_labels.new.labels.entries c.self.inside.next c.self.inside.roll c.keep_retired.new.retired.keys) (Contains c.args.kept.now)) c.self.view_is
    (is_restricted _ _ _ _ _ _ _ _ c.args.kept.now c.self.invariant
    (subst (λ (G : Protection). IsClosed G (Contains c.args.kept.now)) (sym c.self.view_is) c.requires.closed)
    c.keep_vertices.ensures c.keep_labels.ensures c.keep_retired.ensures)
