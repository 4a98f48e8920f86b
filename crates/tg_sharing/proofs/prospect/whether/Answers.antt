use Rattle.std.proofs.Common.{subst}
use Rattle.tg_sharing.specs.Promise.Answers.{IsAnswer}
use Rattle.tg_sharing.specs.declared.sharing.Answer.{Answer}
use Rattle.tg_sharing.proofs.prospect.whether.Goals as goal

pub returns-in-By : goal.returns-in-By
returns-in-By c =
    let is = subst (λ (a : Answer). IsAnswer c.args.graph.now c.args.goal a) c.in-By.is c.in_ok-answered.ensures in
    record { steps = c.in-By.field-0.items; reached = is.0; derived = is.1; shared = is.2 }

pub returns : goal.returns
returns c =
    let is = subst (λ (a : Answer). IsAnswer c.args.graph.now c.args.goal a) c.in-Unknown.is c.in_ok-answered.ensures in
    (c.in-Unknown.field-0.items, is.0, is.1, is.2)
