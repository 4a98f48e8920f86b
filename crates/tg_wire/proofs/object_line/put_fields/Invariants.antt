use Rattle.std.proofs.Common.{◌≡◌, ◌++◌, false, drop}
use Rattle.serde_json.specs.Written.{members_text}
use Rattle.tg_wire.specs.Inner.Told.{told_members}
use Rattle.tg_wire.proofs.object_line.put_fields.Given as goal

-- what is written and the members that are left are all of them
abbrev pub invariant-loop-key : goal.invariant-loop-key
invariant-loop-key l =
    l.line.items ++ members_text l.later (told_members (drop l.key-index l.fields)) ≡ l.fn.line.items ++ members_text false (told_members l.fields)
