use Rattle.std.proofs.Common.{◌≡◌, ◌+◌, ◌-◌, ◌<◌, ◌≤◌, ◌^◌, length, drop}
use Rattle.std.specs.List.{prefix_len}
use Rattle.std.specs.Char.{is_ascii_digit}
use Rattle.std.specs.Str.Parse.{digits_value, digits_value_after}
use Rattle.tg_wire.specs.Inner.Runs.{front}
use Rattle.tg_wire.proofs.scan.read_digits.Given as goal

abbrev pub invariant-loop-at : goal.invariant-loop-at
invariant-loop-at l = (l.from + prefix_len is_ascii_digit (drop l.from l.bytes) ≡ l.at + prefix_len is_ascii_digit (drop l.at l.bytes)) × (l.at ≤ length l.bytes)
    × (digits_value 10 (front (drop l.from l.bytes)) ≡ digits_value_after 10 l.number (front (drop l.at l.bytes))) × (l.number < 2 ^ 64)

abbrev pub decreases-loop-at : goal.decreases-loop-at
decreases-loop-at l = length l.bytes - l.at
