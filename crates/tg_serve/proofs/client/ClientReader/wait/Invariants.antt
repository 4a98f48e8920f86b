use Rattle.std.proofs.Common.{◌≡◌, ◌≤◌, length}
use Rattle.tg_serve.proofs.client.ClientReader.wait.Given as goal

abbrev pub invariant-loop : goal.invariant-loop
invariant-loop g l = (l.self.beginning ≡ l.fn.self.beginning) × (length l.buf ≡ length l.fn.buf) × (l.most ≤ length l.buf)
