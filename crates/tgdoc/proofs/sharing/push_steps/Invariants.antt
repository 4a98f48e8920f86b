use Rattle.std.proofs.Common.{◌≡◌, ◌++◌, drop}
use Rattle.tgdoc.specs.Inner.Asked.{AreRewritten}
use Rattle.tgdoc.specs.Promise.Sharing.{AreRead, steps_text}
use Rattle.tgdoc.proofs.sharing.push_steps.Given as goal

-- the text so far and the lines of the steps that are left are the whole
abbrev pub invariant-loop-step : goal.invariant-loop-step
invariant-loop-step l = record {
  lines : l.text.items ++ steps_text (drop l.step-index l.steps) ≡ l.fn.text.items ++ steps_text l.steps;
  read : AreRead (drop l.step-index l.steps) → AreRead l.steps;
  rewritten : AreRewritten (drop l.step-index l.steps);
}
