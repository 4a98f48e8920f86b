use Rattle.std.proofs.Common.{arith}
use Rattle.tgdoc.proofs.reading.are_in_range.Goals as goal

pub returns : goal.returns
returns c = λ within. record {
  some_workers = omega arith;
  few_workers = omega arith;
  some_connections = omega arith;
  few_connections = omega arith;
  some_in_a_round = omega arith;
  few_in_a_round = omega arith;
  bounds = c.are_bounds.ensures within;
}
