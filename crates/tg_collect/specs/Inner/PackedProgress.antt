-- the collector's progress that a tag and two words in memory represent
use Rattle.std.specs.Prelude.{None, Some}
use Rattle.tg_collect.specs.declared.machine.Progress.{Progress}
use Rattle.tg_collect.specs.declared.machine.Progress.TheVariants as progress
use Rattle.tg_collect.specs.declared.packed_progress.Flat.{Flat}
use Rattle.tg_collect.specs.declared.packed_progress.Flat.TheVariants.{Idle, Choosing, Scanning, Ending, Sweeping}
use Rattle.tg_collect.specs.declared.packed_progress.PackedProgress.TheInside.{Inside}

abbrev pub unpacked_of : Flat → Progress
unpacked_of Idle = progress.Idle
unpacked_of Choosing = progress.Marking None
unpacked_of (Scanning i c) = progress.Marking (Some (record { slot = i; cursor = Some c }))
unpacked_of (Ending i) = progress.Marking (Some (record { slot = i; cursor = None }))
unpacked_of (Sweeping i) = progress.Sweeping i

abbrev pub unpacked : Inside → Progress
unpacked s = unpacked_of s.flat
