use Rattle.std.proofs.Common.{sym, subst}
use Rattle.tg_lists.specs.Promise.Membership.{Contains}
use Rattle.tg_graph.specs.Promise.Protection.{IsClosed, IsRestriction, Protection}
use Rattle.tg_collect.specs.Promise.Parts.{ListsSerials}
use Rattle.tg_vault.specs.Promise.Contents.{Contents}
use Rattle.tg_vault.proofs.RebaseLemmas.{held_closed, held_left}
use Rattle.tg_vault.proofs.vault.Vault.left_of.Goals as goal

pub restrict-requires-clause-closed : goal.restrict-requires-clause-closed
restrict-requires-clause-closed c =
    let xs = c.as_slice.result.now in
    let listed = subst (λ (w : Contents). ListsSerials w.store xs) c.self.view_is (subst (ListsSerials c.self.inside.state.store) (sym c.as_slice.ensures.value) c.in_ok-held.ensures) in
    subst (λ (G : Protection). IsClosed G (Contains xs)) (sym c.requires.whole) (held_closed c.args.self.now c.soundness.ensures.coherent xs listed)

pub returns : goal.returns
returns c =
    let xs = c.as_slice.result.now in
    let listed = subst (λ (w : Contents). ListsSerials w.store xs) c.self.view_is (subst (ListsSerials c.self.inside.state.store) (sym c.as_slice.ensures.value) c.in_ok-held.ensures) in
    held_left c.args.self.now c.soundness.ensures.coherent xs listed c.restrict.new.self
    (subst (λ (G : Protection). IsRestriction G c.restrict.new.self (Contains xs)) c.requires.whole c.restrict.ensures.restricted) c.restrict.ensures.graph
