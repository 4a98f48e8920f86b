use Rattle.std.proofs.Common.{◌≡◌, ◌≤◌, ◌+◌, [], true}
use Rattle.tg_talk.specs.Promise.Devices.{device_of, has_failed}
use Rattle.tg_serve.specs.Promise.Serving.{IsAlone}
use Rattle.tg_serve.proofs.RoundsLemmas.{RoundsSoFar}
use Rattle.tg_serve.proofs.rounds.serve_rounds.Given as goal

abbrev pub ghosts-serve_round : goal.ghosts-serve_round
ghosts-serve_round g a = record { name = a.blank.name; parts = a.blank.parts }

abbrev pub invariant-rounds : goal.invariant-rounds
invariant-rounds g l = record {
  empty : l.vault.history ≡ [];
  few : IsAlone l.fn.service.operating → l.number + l.left ≤ l.fn.connections + 1;
  so_far : l.fn.is_announced ≡ true → RoundsSoFar l.fn.service.operating l.fn.connections l.fn.round l.left l.number (g.W.Write.contents (device_of l.fn.writer)) (g.W.Write.contents (device_of l.writer)) (has_failed l.writer);
}
