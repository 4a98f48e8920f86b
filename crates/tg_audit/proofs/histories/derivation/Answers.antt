use Rattle.std.proofs.Common.{ap, sym, ◌∙◌, Some, None}
use Rattle.tg_audit.proofs.DerivedLemmas.{derived_add}
use Rattle.tg_audit.proofs.histories.derivation.Goals as goal
use Rattle.tg_audit.proofs.histories.derivation.Goals.{in-Some-entry_step+in_ok-push, in_default-entry_step}

pub loop-number-preserved : goal.loop-number-preserved
loop-number-preserved c =
    let v = c.args.vault.now in
    let n = c.loop-number.number in
    let e = c.in-Some.entry.now in
    let old = c.loop-number.steps.items in
    let new = c.match-entry_step.steps.items in
    elim c.match-entry_step.branch [
      | in-Some-entry_step+in_ok-push w ↦ record {
        derived = derived_add v n e old new (Some w.in-Some-entry_step.step) c.in-Some.ensures.some c.loop-number.invariant.derived (sym c.entry_step.ensures ∙ w.in-Some-entry_step.is)
            (ap (λ s. s.items) w.steps-is ∙ w.in_ok-push.ensures.items);
      }
      | in_default-entry_step w ↦ record {
        derived = derived_add v n e old new None c.in-Some.ensures.some c.loop-number.invariant.derived (sym c.entry_step.ensures ∙ w.in_default-entry_step.is) (ap (λ s. s.items) w.steps-is);
      }
    ]
