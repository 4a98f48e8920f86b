use Rattle.std.proofs.Common.{◌≡◌, ◌≤◌, ◌-◌, ℕ}
use Rattle.tg_graph.specs.Promise.Opening.{subjects}
use Rattle.tg_collect.specs.Inner.Openings.{OpensFirst, KeepsSize}
use Rattle.tg_collect.proofs.machine.Machine.open_principals.Given as goal

-- So many principals are there.
abbrev pub invariant-loop-alloc : goal.invariant-loop-alloc
invariant-loop-alloc l = record {
  first : OpensFirst l.self l.count;
  few : (count : ℕ) → l.graph.vertices ≡ subjects count → l.count ≤ count;
  size : KeepsSize l.fn.self l.self;
}

abbrev pub decreases-loop-alloc : goal.decreases-loop-alloc
decreases-loop-alloc l = 64 - l.count
