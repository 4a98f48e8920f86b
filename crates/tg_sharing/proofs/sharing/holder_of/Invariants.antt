use Rattle.std.proofs.Common.{ℕ}
use Rattle.std.specs.Map.{keys_of}
use Rattle.tg_lists.specs.Promise.Membership.{Contains}
use Rattle.tg_sharing.specs.Inner.Fetching.{IsHolder}
use Rattle.tg_sharing.proofs.sharing.holder_of.Given as goal

-- each holder is still to come
abbrev pub invariant-loop-ends : goal.invariant-loop-ends
invariant-loop-ends l = (u : ℕ) → IsHolder l.graph l.marks l.right l.to u → Contains (keys_of l.ends-iterator) (u, l.to)
