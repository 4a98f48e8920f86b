use Rattle.std.proofs.Common.{◌≡◌, ◌≤◌, length, take, vec_capacity}
use Rattle.tg_vault.specs.Promise.Contents.{Keeps}
use Rattle.tg_vault.specs.Promise.Course.{Course}
use Rattle.tg_vault.proofs.vault.Vault.go.Given as goal

abbrev pub invariant-loop-event : goal.invariant-loop-event
invariant-loop-event l = record {
  course : Course l.fn.self (take l.event-index l.events) l.answers.items l.vault;
  count : length l.answers.items ≡ l.event-index;
  keeps : Keeps l.fn.self l.vault;
  room : length l.events ≤ vec_capacity l.answers;
}
