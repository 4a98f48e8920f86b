use Rattle.std.proofs.Common.{sym, ◌∙◌}
use Rattle.std.specs.Cmp.{nat_cmp_total}
use Rattle.std.specs.FinSet as set
use Rattle.tg_vault.proofs.acting.acting_at.Goals as goal

pub returns-in-Some-clause-here : goal.returns-in-Some-clause-here
returns-in-Some-clause-here c = set.contains-from_list nat_cmp_total c.args.retired.now.keys c.in-Some.serial ∙ sym c.contains.ensures ∙ c.if-contains.true

pub returns-in-Some-2-clause-here : goal.returns-in-Some-2-clause-here
returns-in-Some-2-clause-here c = (c.in-Some.ensures.1, set.contains-from_list nat_cmp_total c.args.retired.now.keys c.in-Some.serial ∙ sym c.contains.ensures ∙ c.if-contains.false)
