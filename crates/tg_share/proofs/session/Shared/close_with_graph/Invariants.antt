use Rattle.std.proofs.Common.{◌≡◌, ◌+◌, ◌≤◌, ◌++◌, length, vec_capacity}
use Rattle.tg_share.specs.Promise.Closing.{exchange_count, logs_of}
use Rattle.tg_share.proofs.session.Shared.close_with_graph.Given as goal

abbrev pub invariant-loop-one : goal.invariant-loop-one
invariant-loop-one g l = record {
  logs : l.logs.items ≡ logs_of l.yielded;
  parts : l.rest.parts ≡ l.initial.rest.parts + length l.yielded;
  amount : l.rest.amount ≡ exchange_count l.yielded;
  room : length l.fn.ended.items ≤ vec_capacity l.logs;
  order : l.yielded ++ l.one-iterator.rest.items ≡ l.fn.ended.items;
}
