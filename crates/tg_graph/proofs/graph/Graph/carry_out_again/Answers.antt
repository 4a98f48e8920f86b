use Rattle.std.proofs.Common.{◌≢◌, sym, subst}
use Rattle.tg_graph.specs.Inner.Deciding.{IsSubjectIfNamed}
use Rattle.tg_graph.specs.Promise.Protection.{MayBeNamed, IsGraph, IsVertex}
use Rattle.tg_graph.proofs.CommandsKeepGraphsLemmas.{granted_to}
use Rattle.tg_graph.proofs.graph.Graph.carry_out_again.Goals as goal

-- what the joining of an edge may take for granted
joins : (c : goal.After-add_rights-arg-1) → IsVertex c.args.self.now c.in-Joins.from × IsVertex c.args.self.now c.in-Joins.to × (c.in-Joins.from ≢ c.in-Joins.to)
joins c =
    let h = granted_to c.args.self.now c.args.actor c.args.command.now _ (subst IsGraph c.self.view_is c.self.invariant) c.requires.subject c.requires.allowed c.in-Joins.ensures in
    (h.0, h.1, h.2)

pub add_rights-requires-clause-from_vertex : goal.add_rights-requires-clause-from_vertex
add_rights-requires-clause-from_vertex c = (joins c).0

pub add_rights-requires-clause-to_vertex : goal.add_rights-requires-clause-to_vertex
add_rights-requires-clause-to_vertex c = (joins c).1

pub add_vertex-requires-clause-subject : goal.add_vertex-requires-clause-subject
add_vertex-requires-clause-subject c =
    let h = granted_to c.args.self.now c.args.actor c.args.command.now _ (subst IsGraph c.self.view_is c.self.invariant) c.requires.subject c.requires.allowed c.in-Makes.ensures in
    subst (IsSubjectIfNamed c.in-Makes.kind) (sym c.in_ok-name-in-Makes.ensures) h.1

pub add_vertex-requires-clause-named : goal.add_vertex-requires-clause-named
add_vertex-requires-clause-named c =
    let h = granted_to c.args.self.now c.args.actor c.args.command.now _ (subst IsGraph c.self.view_is c.self.invariant) c.requires.subject c.requires.allowed c.in-Makes.ensures in
    subst (MayBeNamed c.args.self.now.names) (sym c.in_ok-name-in-Makes.ensures) h.2
