use Rattle.std.proofs.Common.{◌≡◌, ◌++◌, length}
use Rattle.std.specs.Vec.Iter.{into_iter_items, into_iter_len}
use Rattle.tg_graph.specs.Inner.Parts.{members_of}
use Rattle.tg_graph.proofs.roll.Roll.of_pairs.Given as goal

-- the principals so far, and those that are left
abbrev pub invariant-loop-pair : goal.invariant-loop-pair
invariant-loop-pair l = record {
  all : l.yielded ++ into_iter_items l.pair-iterator ≡ into_iter_items l.initial.pair-iterator;
  members : l.roll ≡ members_of l.yielded;
  many : into_iter_len l.pair-iterator ≡ length (into_iter_items l.pair-iterator);
}
