-- the keys of an event line as a set: those of its fields, `op` and `seat`
use Rattle.std.specs.Prelude.{ℕ}
use Rattle.tg_rights.specs.declared.command.Rule.{Rule}
use Rattle.tg_rights.specs.declared.command.Rule.TheVariants as rule
use Rattle.tg_wire.specs.declared.op.Op.{Op}
use Rattle.tg_wire.specs.declared.op.Op.TheVariants as op

abbrev pub command_set : Rule → ℕ
command_set rule.Take = 155
command_set rule.Grant = 171
command_set rule.Create = 387
command_set rule.Remove = 139
command_set rule.Read = 11
command_set rule.Write = 523
command_set rule.Look = 67
command_set rule.Enrol = 1155
command_set rule.Retire = 3
command_set rule.Assume = 7
command_set rule.Leave = 3

abbrev pub known_set : Op → ℕ
known_set op.Hello = 1027
known_set op.Bye = 3
known_set op.Shade = 3
known_set op.Collect = 3
known_set op.Cycle = 3
known_set (op.Ask rule) = command_set rule
