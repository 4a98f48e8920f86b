use Rattle.std.proofs.Common.{◌≤◌}
use Rattle.tg_share.proofs.session.Shared.collector.Given as goal

abbrev pub invariant-loop-step : goal.invariant-loop-step
invariant-loop-step g l = (l.worked.freed ≤ l.step) × (l.worked.ended ≤ l.step)
