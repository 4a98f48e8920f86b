-- why a step cannot be carried out, as the code reports it
use Rattle.std.specs.Prelude.{ℕ}
use Rattle.tg_graph.specs.declared.derivation.Step.{Step}
use Rattle.tg_graph.specs.declared.derivation.Verdict.{Verdict}
use Rattle.tg_graph.specs.declared.derivation.Verdict.TheVariants as verdict
use Rattle.tg_graph.specs.Promise.Protection.{Protection}
use Rattle.tg_audit.specs.declared.derivations.Stop.{Stop}
use Rattle.tg_audit.specs.declared.derivations.Stop.TheVariants as stop
use Rattle.tg_audit.specs.Promise.Verdicts.{HasNoSubject, IsDenied, IsWithoutSerial}

-- the step stops the derivation for this reason
abbrev pub StopsBy : Protection → Step → Stop → Type 0
StopsBy G s stop.NoSubject = HasNoSubject G s
StopsBy G s (stop.Denied rule cause) = IsDenied (rule, cause) G s
StopsBy G s stop.NoSerial = IsWithoutSerial G s

abbrev pub verdict_at : ℕ → Stop → Verdict
verdict_at index stop.NoSubject = verdict.ActorNotSubject index
verdict_at index (stop.Denied rule cause) = verdict.StepDenied index rule cause
verdict_at index stop.NoSerial = verdict.StepFull index
