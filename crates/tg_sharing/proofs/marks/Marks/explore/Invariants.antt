use Rattle.std.proofs.Common.{◌≡◌, ◌-◌, ◌^◌, true}
use Rattle.tg_sharing.specs.Inner.Marking.{AreMarks, AreSettled, is_bridged, size}
use Rattle.tg_sharing.specs.Promise.Spans.{IsActor}
use Rattle.tg_sharing.proofs.marks.Marks.explore.Given as goal

abbrev pub invariant-loop-marks : goal.invariant-loop-marks
invariant-loop-marks l = record {
  from : l.marks.from ≡ l.from;
  marks : AreMarks l.graph l.marks;
  settled : AreSettled l.graph l.marks;
  own : IsActor l.graph l.from → is_bridged l.marks l.from ≡ true;
}

-- there are fewer marks than numbers
abbrev pub decreases-loop-marks : goal.decreases-loop-marks
decreases-loop-marks l = 2 ^ 64 - size l.marks
