use Rattle.std.proofs.Common.{◌≡◌, ◌++◌, drop, length}
use Rattle.tg_graph.proofs.roll.Roll.copy.Given as goal

-- what is copied, and what is left
abbrev pub invariant-loop-member : goal.invariant-loop-member
invariant-loop-member l = record {
  items : l.member-items ≡ l.self;
  all : l.copied ++ drop l.member-index l.self ≡ l.self;
  many : length l.copied ≡ l.member-index;
}
