use Rattle.std.proofs.Common.{◌≡◌, drop}
use Rattle.tg_wire.specs.Inner.Keys.{is_listed, key_text}
use Rattle.tg_wire.proofs.key.Key.is_in.Given as goal

-- it is among the keys that are left if it is among all
abbrev pub invariant-loop-key : goal.invariant-loop-key
invariant-loop-key l = is_listed (key_text l.self) (drop l.key-index l.keys) ≡ is_listed (key_text l.self) l.keys
