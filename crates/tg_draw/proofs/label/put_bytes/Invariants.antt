use Rattle.std.proofs.Common.{◌≡◌, ◌++◌, drop}
use Rattle.std.specs.List.{flat_map}
use Rattle.tg_draw.specs.Promise.Label.{byte_text}
use Rattle.tg_draw.proofs.label.put_bytes.Given as goal

-- the text so far and that of the bytes that are left are those of all
abbrev pub invariant-loop-byte : goal.invariant-loop-byte
invariant-loop-byte l = l.out.items ++ flat_map byte_text (drop l.byte-index l.bytes) ≡ l.fn.out.items ++ flat_map byte_text l.bytes
