use Rattle.std.proofs.Common.{◌≡◌, Some}
use Rattle.tg_sharing.specs.Inner.Growing.{Continues, TakesFrom}
use Rattle.tg_sharing.specs.Inner.Marking.{bridge_of}
use Rattle.tg_sharing.specs.Inner.Paths.{Holds}
use Rattle.tg_sharing.specs.Promise.Spans.{IsActor}
use Rattle.tg_sharing.proofs.builder.Derivation.carry.Given as goal

-- the holder can take from where the walk is
abbrev pub invariant-loop-bridge : goal.invariant-loop-bridge
invariant-loop-bridge l = record {
  continues : Continues l.fn.self l.self;
  bridge : bridge_of l.marks l.at ≡ Some l.bridge;
  holder : IsActor l.graph l.holder;
  draws : TakesFrom l.self.graph l.holder l.at;
  held : Holds l.self.graph l.holder l.load.rights l.load.over;
}

abbrev pub decreases-loop-bridge : goal.decreases-loop-bridge
decreases-loop-bridge l = l.bridge.rank
