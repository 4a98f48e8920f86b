use Rattle.std.proofs.Common.{◌≡◌, take}
use Rattle.tg_vault.specs.Promise.History.{graph_of}
use Rattle.tg_audit.specs.Promise.Replies.{replies_of}
use Rattle.tg_audit.proofs.ReplayLemmas.{IsReplayed}
use Rattle.tg_audit.proofs.TableLemmas.{FollowedTo}
use Rattle.tg_audit.proofs.following.follow.Given as goal

abbrev pub invariant-loop-number : goal.invariant-loop-number
invariant-loop-number l = record {
  followed : FollowedTo l.vault l.logs (replies_of l.vault.opening l.vault.history) l.number l.table;
  replayed : IsReplayed l.vault l.graph l.number;
  reached : l.graph ≡ graph_of l.vault.opening (take l.number l.vault.history);
}
