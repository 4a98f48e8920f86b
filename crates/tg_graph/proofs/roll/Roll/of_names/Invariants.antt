use Rattle.std.proofs.Common.{◌≡◌, ◌++◌, ◌+◌, drop, length}
use Rattle.tg_graph.specs.Promise.Opening.{first_members}
use Rattle.tg_graph.proofs.roll.Roll.of_names.Given as goal

-- the principals so far, and those of the names that are left
abbrev pub invariant-loop-word : goal.invariant-loop-word
invariant-loop-word l = record {
  all : l.roll ++ first_members l.serial (drop l.word-index l.names) ≡ first_members 1 l.names;
  next : l.serial ≡ l.word-index + 1;
  many : length l.roll ≡ l.word-index;
}
