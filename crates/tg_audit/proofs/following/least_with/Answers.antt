use Rattle.std.proofs.Common.{rules, arith, subst}
use Rattle.std.proofs.lemmas.List.{nil_from_length}
use Rattle.tg_audit.specs.Inner.Following.{IsLeastAbove}
use Rattle.tg_audit.proofs.AboveLemmas.{least_empty, least_first, least_low, least_lower, least_stays}
use Rattle.std.proofs.lemmas.Bool.Decides.{nat_tests}
use Rattle.tg_audit.specs.declared.logs.Exchange.{Exchange}
use Rattle.tg_audit.proofs.following.least_with.Goals as goal

pub returns-then-log-lt-SEATS : goal.returns-then-log-lt-SEATS
returns-then-log-lt-SEATS c = λ before is. least_low before c.args.log.now c.args.least c.if-log-lt-SEATS.true is

pub returns-then-is_empty : goal.returns-then-is_empty
returns-then-is_empty c = λ before is. least_empty before c.args.log.now c.args.least (nil_from_length {X = Exchange} c.args.log.now.exchanges.items (grind (arith, nat_tests))) is

pub returns-in-None : goal.returns-in-None
returns-in-None c = λ before is. least_first before c.args.log.now c.if-log-lt-SEATS.false (search rules) (subst (IsLeastAbove before) c.in-None.is is)

pub returns-then-found-log : goal.returns-then-found-log
returns-then-found-log c = λ before is. least_stays before c.args.log.now c.in-Some.found c.if-found-log.true (subst (IsLeastAbove before) c.in-Some.is is)

pub returns-else-found-log : goal.returns-else-found-log
returns-else-found-log c = λ before is. least_lower before c.args.log.now c.in-Some.found c.if-log-lt-SEATS.false (search rules) c.if-found-log.false (subst (IsLeastAbove before) c.in-Some.is is)
