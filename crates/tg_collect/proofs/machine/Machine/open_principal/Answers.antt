use Rattle.std.proofs.Common.{ap, arith, length}
use Rattle.tg_collect.specs.declared.machine.Machine.{Machine}
use Rattle.tg_collect.proofs.OpeningLemmas.{count_is, principal_opens}
use Rattle.tg_collect.proofs.machine.Machine.open_principal.Goals as goal

pub add_principal-requires : goal.add_principal-requires
add_principal-requires c =
    let same = ap (λ (m : Machine). length m.roots.principals) c.in-Ok.ensures.step.2 in
    let count = count_is c.args.self.now c.args.count c.requires.first.opened in
    let few = c.requires.few in
    record { few = omega (arith, same, count, few) }

pub returns : goal.returns
returns c = principal_opens c.args.self.now c.place_vertex.new.self c.add_principal.new.self c.args.count c.in-Ok.slot c.empty.result c.soundness.ensures.sound c.requires.first c.requires.few c.empty.ensures c.in-Ok.ensures.step c.add_principal.ensures.step
