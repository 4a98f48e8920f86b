use Rattle.std.proofs.Common.{◌≡◌, ◌++◌, ℕ, List, length}
use Rattle.json.specs.Token.{Token}
use Rattle.tg_wire.specs.Inner.Flat.{AreSpelled, key_tokens}
use Rattle.tg_wire.proofs.escaped.take_members.Given as goal

abbrev pub invariant-loop-word : goal.invariant-loop-word
invariant-loop-word l = (keys : List (List ℕ × Token)) × AreSpelled keys l.found.list.items × (l.fn.reader ≡ key_tokens keys ++ l.reader)

abbrev pub decreases-loop-word : goal.decreases-loop-word
decreases-loop-word l = length l.reader
