use Rattle.std.proofs.Common.{◌≡◌, take}
use Rattle.tg_audit.specs.Promise.Replies.{replies_of}
use Rattle.tg_audit.proofs.ReplayLemmas.{IsReplayed}
use Rattle.tg_audit.proofs.replaying.replay.Given as goal

abbrev pub invariant-loop-number : goal.invariant-loop-number
invariant-loop-number l = record {
  replied : l.replies.items ≡ take l.number (replies_of l.vault.opening l.vault.history);
  replayed : IsReplayed l.vault l.graph l.number;
}
