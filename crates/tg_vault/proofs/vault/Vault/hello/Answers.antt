use Rattle.std.proofs.Common.{List, ap, sym, ◌∙◌}
use Rattle.tg_graph.specs.declared.member.Member.{Member}
use Rattle.tg_graph.specs.Promise.Protection.{serial_of}
use Rattle.tg_vault.specs.Inner.Contents.{contents}
use Rattle.tg_vault.proofs.CollectLemmas.{seat_taken}
use Rattle.tg_vault.proofs.vault.Vault.hello.Goals as goal

pub invariant_of-self : goal.invariant_of-self
invariant_of-self c =
    seat_taken (contents c.self.inside) c.self.inside.state.next c.self.inside.state.retired.keys c.self.invariant c.args.seat c.args.name.now c.in-Some.principal
    (ap (λ (ms : List Member). serial_of ms c.args.name.now) (sym c.as_slice-2.ensures) ∙ sym c.in-Some.ensures)
