use Rattle.std.proofs.Common.{rules, arith, subst}
use Rattle.tg_vault.specs.declared.event.Event.TheVariants as event
use Rattle.tg_vault.specs.declared.event.Answer.TheVariants as answer
use Rattle.tg_vault.specs.Promise.Course.{VaultStep}
use Rattle.tg_vault.specs.Promise.StoreSteps.{SessionStep}
use Rattle.tg_vault.proofs.CollectLemmas.{still_acts}
use Rattle.tg_share.specs.Promise.Reached.{UnderLock}
use Rattle.tg_share.proofs.AnsweredLemmas.{passed}
use Rattle.tg_share.proofs.ReachedLemmas.{reached_on}
use Rattle.tg_share.proofs.locked.Locked.hello.Goals as goal

pub invariant_of-self-2 : goal.invariant_of-self-2
invariant_of-self-2 g c =
    let acts : SessionStep c.self.inside.vault c.hello-answer.new.self = still_acts _ _ c.hello-answer.ensures.store in
    let step : VaultStep c.self.inside.vault (event.Hello c.args.seat c.args.name.now) (answer.Hello c.in_ok-actor.actor) c.hello-answer.new.self = search rules in
    record {
      reached = reached_on c.self.inside.vault c.hello-answer.new.self (event.Hello c.args.seat c.args.name.now) (answer.Hello c.in_ok-actor.actor) c.self.invariant.reached step;
      counted = search rules;
      uncounted = omega arith;
      parts = omega arith;
      one_left = omega arith;
    }

pub returns-in_err-actor-clause-event : goal.returns-in_err-actor-clause-event
returns-in_err-actor-clause-event g c =
    let acts : SessionStep c.self.inside.vault c.hello-answer.new.self = still_acts _ _ c.hello-answer.ensures.store in
    let step : VaultStep c.self.inside.vault (event.Hello c.args.seat c.args.name.now) (answer.Seat c.in_err-actor.field-0.0) c.hello-answer.new.self = search rules in
    λ _. passed c.from_residual.result c.in_err-actor.field-0.0 _ _ c.from_residual.ensures.1 (subst (λ (l : UnderLock). VaultStep l.vault (event.Hello c.args.seat c.args.name.now) (answer.Seat c.in_err-actor.field-0.0) c.hello-answer.new.self) c.self.view_is step)

pub returns-clause-event : goal.returns-clause-event
returns-clause-event g c =
    let acts : SessionStep c.self.inside.vault c.hello-answer.new.self = still_acts _ _ c.hello-answer.ensures.store in
    let step : VaultStep c.self.inside.vault (event.Hello c.args.seat c.args.name.now) (answer.Hello c.in_ok-actor.actor) c.hello-answer.new.self = search rules in
    λ _. subst (λ (l : UnderLock). VaultStep l.vault (event.Hello c.args.seat c.args.name.now) (answer.Hello c.in_ok-actor.actor) c.hello-answer.new.self) c.self.view_is step
