use Rattle.std.proofs.Common.{◌≡◌, ℕ, ◌-◌, ◌≤◌, List, length, drop}
use Rattle.json.specs.Token.{Token}
use Rattle.json.specs.Lex.{between, lex}
use Rattle.tg_wire.specs.Inner.Flat.{AreSpelled, member_lexemes}
use Rattle.tg_wire.proofs.flat.read_members.Given as goal

abbrev pub invariant-loop-member : goal.invariant-loop-member
invariant-loop-member l =
    (l.at ≤ length l.line)
    × ((front : List (List ℕ × Token)) × AreSpelled front l.found.list.items × (lex between (drop l.fn.from l.line) ≡ member_lexemes front (lex between (drop l.at l.line))))

abbrev pub decreases-loop-member : goal.decreases-loop-member
decreases-loop-member l = length l.line - l.at
