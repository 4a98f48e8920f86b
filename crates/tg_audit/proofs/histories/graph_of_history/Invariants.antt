use Rattle.std.proofs.Common.{◌≡◌, take}
use Rattle.tg_vault.specs.Promise.History.{graph_of}
use Rattle.tg_audit.proofs.ReplayLemmas.{IsLeft}
use Rattle.tg_audit.proofs.histories.graph_of_history.Given as goal

abbrev pub invariant-loop-number : goal.invariant-loop-number
invariant-loop-number l = record {
  left : IsLeft l.vault l.graph l.number;
  reached : l.graph ≡ graph_of l.vault.opening (take l.number l.vault.history);
}
