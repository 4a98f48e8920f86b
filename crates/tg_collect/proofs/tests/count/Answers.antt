use Rattle.std.proofs.Common.{sym, ◌∙◌}
use Rattle.tg_collect.specs.declared.machine.Root.{Root}
use Rattle.tg_collect.proofs.Common.{length-map}
use Rattle.tg_collect.proofs.tests.count.Goals as goal

pub returns : goal.returns
returns c = c.len.ensures.count ∙ sym (length-map c.args.machine.now.roots.principals (λ (r : Root). r.serial))
