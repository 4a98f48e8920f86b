use Rattle.std.proofs.Common.{◌≡◌, ℕ, refl, sym, ap, subst, ◌∙◌, [], ◌∷◌, ◌++◌, Some}
use Rattle.std.specs.FinSet as set
use Rattle.tg_collect.specs.Promise.Readings.{IsHeldIn, IsParkedIn, agents}
use Rattle.tg_vault.specs.Inner.Acting.{serial_in}
use Rattle.tg_vault.specs.Promise.World.{Enters, acting, actor_at, at_seat}
use Rattle.tg_vault.specs.Promise.Contents.{Contents, Keeps, moment, IsExact}
use Rattle.tg_vault.specs.Inner.CarriedOut.{answered}
use Rattle.tg_vault.specs.Inner.Recorded.{IsOfCommand}
use Rattle.tg_vault.specs.Inner.Contents.{contents}
use Rattle.tg_vault.specs.Promise.StoreSteps.{SessionStep}
use Rattle.tg_vault.specs.Promise.Agreement.{SameForAgreeing}
use Rattle.tg_vault.proofs.DecidedLemmas.{next_unheld, none_gone, root_active}
use Rattle.tg_vault.proofs.NamedLemmas.{decided_names}
use Rattle.tg_vault.proofs.EntryLemmas.{Pushed, pushed_joined, pushed_enters, pushed_same, pushed_exact, pushed_acts, next_unparked}
use Rattle.tg_vault.proofs.vault.Vault.ask.Goals as goal

pub acting_at-actor-requires-clause-active : goal.acting_at-actor-requires-clause-active
acting_at-actor-requires-clause-active c = λ h. ap (λ rs. set.contains rs c.in_ok-principal.principal) c.self.invariant.retired ∙ root_active _ c.self.invariant.joins c.soundness-2.ensures.sound c.in_ok-principal.principal h

pub acting_at-actor-requires-clause-gone : goal.acting_at-actor-requires-clause-gone
acting_at-actor-requires-clause-gone c = λ none.
    let sits = subst (λ (w : Contents). at_seat w.seats c.args.seat ≡ Some c.in_ok-principal.principal) (sym c.self.view_is) c.in_ok-principal.ensures.ok.1 in
    ap (λ rs. set.contains rs c.in_ok-principal.principal) c.self.invariant.retired
    ∙ none_gone _ c.self.invariant.joins c.soundness-2.ensures.sound c.in_ok-principal.principal (c.self.invariant.joins.vault.seated c.args.seat c.in_ok-principal.principal sits) none

pub answer-requires-clause-unheld : goal.answer-requires-clause-unheld
answer-requires-clause-unheld c = subst (λ n. IsHeldIn c.self.inside.state.store n → ⊥) (sym c.self.invariant.serial) (next_unheld _ c.self.invariant.joins c.soundness-2.ensures.sound)

pub answer-requires-clause-unparked : goal.answer-requires-clause-unparked
answer-requires-clause-unparked c = subst (λ n. IsParkedIn c.self.inside.state.store n → ⊥) (sym c.self.invariant.serial) (next_unparked _ c.self.invariant.joins c.soundness-2.ensures.sound)

pub answer-requires-clause-listed : goal.answer-requires-clause-listed
answer-requires-clause-listed c = c.self.invariant.joins.principals

pub new-entry-requires-clause-named : goal.new-entry-requires-clause-named
new-entry-requires-clause-named c =
    subst (λ x. IsOfCommand x c.replace-asked.result c.in-Ok-answer.outcome) (sym c.serial.ensures)
    (subst (λ asked. IsOfCommand (serial_in c.acting_at-actor.result) asked c.in-Ok-answer.outcome) (sym c.replace-asked.ensures.value)
    (decided_names _ _ _ (serial_in c.acting_at-actor.result) c.args.command.now c.in-Ok-answer.outcome c.in-Ok-answer.ensures.carried.decided))

acts : (c : goal.In-Ok-push) → actor_at (moment (contents c.self.inside)).world c.args.seat ≡ Some (serial_in c.acting_at-actor.result)
acts c =
    let sits = subst (λ (w : Contents). at_seat w.seats c.args.seat ≡ Some c.in_ok-principal.principal) (sym c.self.view_is) c.in_ok-principal.ensures.ok.1 in
    ap (acting (at_seat (agents c.self.inside.state.store) c.args.seat)) sits ∙ c.acting_at-actor.ensures.actor

pushed : (c : goal.In-Ok-push) →
    Pushed (contents c.self.inside) c.self.inside.state.next c.self.inside.state.retired.keys c.args.seat (serial_in c.acting_at-actor.result) c.args.command.now (answered c.in-Ok-answer.outcome c.answer.new.told) c.answer.new.self c.push.new.self.items
pushed c = record {
  joined = c.self.invariant;
  store = c.soundness-2.ensures.sound;
  within = c.in_ok-principal.ensures.ok.0;
  acts = acts c;
  carried = c.in-Ok-answer.ensures.carried;
  history_is =
      c.in-Ok-push.ensures.items
      ∙ (λ i. c.try_reserve.ensures.items i ++ c.new-entry.ensures i ∷ [])
      ∙ (λ i. c.self.inside.history.items ++ record { seat = c.args.seat; actor = c.serial.ensures i; command = c.replace-asked.ensures.value i; outcome = c.in-Ok-answer.outcome } ∷ []);
}

pub invariant_of-self-2 : goal.invariant_of-self-2
invariant_of-self-2 c = pushed_joined (contents c.self.inside) _ _ _ _ _ _ _ _ (pushed c)

pub returns-clause-step : goal.returns-clause-step
returns-clause-step c = (
  c.in_ok-principal.ensures.ok.3,
  c.count-number.ensures,
  subst (λ (w : Contents). (actor : ℕ) × (actor_at (moment w).world c.args.seat ≡ Some actor)
      × Enters w.limits (moment w) c.args.seat actor c.args.command.now c.answer.new.told (moment (record (contents c.self.inside) { store = c.answer.new.self.store; names = c.answer.new.self.names; history = c.push.new.self.items }))) c.self.view_is
      (serial_in c.acting_at-actor.result, acts c, pushed_enters (contents c.self.inside) _ _ _ _ _ _ _ _ (pushed c)),
)

pub returns-clause-keeps : goal.returns-clause-keeps
returns-clause-keeps c =
    subst (λ (w : Contents). Keeps w (record (contents c.self.inside) { store = c.answer.new.self.store; names = c.answer.new.self.names; history = c.push.new.self.items })) c.self.view_is
    (record { opening = refl; limits = refl; key = c.in-Ok-answer.ensures.carried.acted.key })

pub returns-clause-agrees : goal.returns-clause-agrees
returns-clause-agrees c =
    subst (λ (w : Contents). SameForAgreeing w (record (contents c.self.inside) { store = c.answer.new.self.store; names = c.answer.new.self.names; history = c.push.new.self.items }) c.answer.new.told) c.self.view_is
    (pushed_same (contents c.self.inside) _ _ _ _ _ _ _ _ (pushed c))

pub returns-clause-exact : goal.returns-clause-exact
returns-clause-exact c =
    subst (λ (w : Contents). IsExact w (record (contents c.self.inside) { store = c.answer.new.self.store; names = c.answer.new.self.names; history = c.push.new.self.items })) c.self.view_is
    (pushed_exact (contents c.self.inside) _ _ _ _ _ _ _ _ (pushed c))

pub returns-clause-acts : goal.returns-clause-acts
returns-clause-acts c =
    subst (λ (w : Contents). SessionStep w (record (contents c.self.inside) { store = c.answer.new.self.store; names = c.answer.new.self.names; history = c.push.new.self.items })) c.self.view_is
    (pushed_acts (contents c.self.inside) _ _ _ _ _ _ _ _ (pushed c))
