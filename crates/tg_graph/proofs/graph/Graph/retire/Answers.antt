use Rattle.std.proofs.Common.{◌≡◌, ap, sym, ◌∙◌, subst}
use Rattle.std.specs.FinSet as set
use Rattle.tg_graph.specs.Promise.Protection.{without_member, IsGraph}
use Rattle.tg_graph.specs.Inner.Views.{protection_of}
use Rattle.tg_graph.proofs.VertexLemmas.{retired-IsGraph, retired-shown}
use Rattle.tg_graph.proofs.graph.Graph.retire.Goals as goal

shown : (c : goal.After-remove) → protection_of c.self.inside.vertices.entries c.self.inside.labels.entries c.self.inside.next c.remove.new.self c.insert.new.self.keys ≡ record c.args.self.now {
  names = without_member c.args.self.now.names c.args.actor;
  retired = set.insert c.args.self.now.retired c.args.actor;
}
shown c =
    ap (λ ms. protection_of c.self.inside.vertices.entries c.self.inside.labels.entries c.self.inside.next ms c.insert.new.self.keys) c.remove.ensures
    ∙ retired-shown c.args.self.now _ _ _ _ _ _ c.args.actor c.self.view_is c.in_ok-insert.ensures.updates.0

pub invariant_of-self-2 : goal.invariant_of-self-2
invariant_of-self-2 c = subst IsGraph (sym (shown c)) (retired-IsGraph c.args.self.now c.args.actor (subst IsGraph c.self.view_is c.self.invariant) c.requires)

pub returns-clause-ok : goal.returns-clause-ok
returns-clause-ok c = shown c
