-- The keys that a line may have, as a set.
use Rattle.std.proofs.Common.{◌≡◌, ◌++◌, refl}
use Rattle.tg_rights.specs.declared.command.Rule.TheVariants as rule
use Rattle.tg_wire.specs.Inner.Keys.{is_in_set, key_text}
use Rattle.tg_wire.specs.Inner.Known.{known_set}
use Rattle.tg_wire.specs.Promise.Lines.{line_extras}
use Rattle.tg_wire.specs.Promise.Ops.{op_form}
use Rattle.tg_wire.specs.Promise.Reading.{is_among}
use Rattle.tg_wire.specs.declared.key.Key.{Key}
use Rattle.tg_wire.specs.declared.key.Key.TheVariants as key
use Rattle.tg_wire.specs.declared.op.Op.{Op}
use Rattle.tg_wire.specs.declared.op.Op.TheVariants as op

-- something of each key
abbrev pub each_key : (Key → Type 0) → Type 0
each_key P = P key.Op × P key.Seat × P key.Actor × P key.Agent × P key.Over × P key.From × P key.To × P key.At × P key.Rights × P key.Kind × P key.Text × P key.Name × P key.Principals × P key.Edges × P key.Next × P key.Slots × P key.Cells

pub of_key : (P : Key → Type 0) → each_key P → (k : Key) → P k
of_key P h key.Op = h.0
of_key P h key.Seat = h.1
of_key P h key.Actor = h.2
of_key P h key.Agent = h.3
of_key P h key.Over = h.4
of_key P h key.From = h.5
of_key P h key.To = h.6
of_key P h key.At = h.7
of_key P h key.Rights = h.8
of_key P h key.Kind = h.9
of_key P h key.Text = h.10
of_key P h key.Name = h.11
of_key P h key.Principals = h.12
of_key P h key.Edges = h.13
of_key P h key.Next = h.14
of_key P h key.Slots = h.15
of_key P h key.Cells = h.16

abbrev is_right : Op → Key → Type 0
is_right o k = is_in_set (known_set o) k ≡ is_among (line_extras ++ (op_form o).fields) (key_text k)

pub set_is_known : (o : Op) (k : Key) → is_in_set (known_set o) k ≡ is_among (line_extras ++ (op_form o).fields) (key_text k)
set_is_known op.Hello = of_key (is_right op.Hello) (refl, refl, refl, refl, refl, refl, refl, refl, refl, refl, refl, refl, refl, refl, refl, refl, refl)
set_is_known op.Bye = of_key (is_right op.Bye) (refl, refl, refl, refl, refl, refl, refl, refl, refl, refl, refl, refl, refl, refl, refl, refl, refl)
set_is_known op.Shade = of_key (is_right op.Shade) (refl, refl, refl, refl, refl, refl, refl, refl, refl, refl, refl, refl, refl, refl, refl, refl, refl)
set_is_known op.Collect = of_key (is_right op.Collect) (refl, refl, refl, refl, refl, refl, refl, refl, refl, refl, refl, refl, refl, refl, refl, refl, refl)
set_is_known op.Cycle = of_key (is_right op.Cycle) (refl, refl, refl, refl, refl, refl, refl, refl, refl, refl, refl, refl, refl, refl, refl, refl, refl)
set_is_known (op.Ask rule.Take) = of_key (is_right (op.Ask rule.Take)) (refl, refl, refl, refl, refl, refl, refl, refl, refl, refl, refl, refl, refl, refl, refl, refl, refl)
set_is_known (op.Ask rule.Grant) = of_key (is_right (op.Ask rule.Grant)) (refl, refl, refl, refl, refl, refl, refl, refl, refl, refl, refl, refl, refl, refl, refl, refl, refl)
set_is_known (op.Ask rule.Create) = of_key (is_right (op.Ask rule.Create)) (refl, refl, refl, refl, refl, refl, refl, refl, refl, refl, refl, refl, refl, refl, refl, refl, refl)
set_is_known (op.Ask rule.Remove) = of_key (is_right (op.Ask rule.Remove)) (refl, refl, refl, refl, refl, refl, refl, refl, refl, refl, refl, refl, refl, refl, refl, refl, refl)
set_is_known (op.Ask rule.Read) = of_key (is_right (op.Ask rule.Read)) (refl, refl, refl, refl, refl, refl, refl, refl, refl, refl, refl, refl, refl, refl, refl, refl, refl)
set_is_known (op.Ask rule.Write) = of_key (is_right (op.Ask rule.Write)) (refl, refl, refl, refl, refl, refl, refl, refl, refl, refl, refl, refl, refl, refl, refl, refl, refl)
set_is_known (op.Ask rule.Look) = of_key (is_right (op.Ask rule.Look)) (refl, refl, refl, refl, refl, refl, refl, refl, refl, refl, refl, refl, refl, refl, refl, refl, refl)
set_is_known (op.Ask rule.Enrol) = of_key (is_right (op.Ask rule.Enrol)) (refl, refl, refl, refl, refl, refl, refl, refl, refl, refl, refl, refl, refl, refl, refl, refl, refl)
set_is_known (op.Ask rule.Retire) = of_key (is_right (op.Ask rule.Retire)) (refl, refl, refl, refl, refl, refl, refl, refl, refl, refl, refl, refl, refl, refl, refl, refl, refl)
set_is_known (op.Ask rule.Assume) = of_key (is_right (op.Ask rule.Assume)) (refl, refl, refl, refl, refl, refl, refl, refl, refl, refl, refl, refl, refl, refl, refl, refl, refl)
set_is_known (op.Ask rule.Leave) = of_key (is_right (op.Ask rule.Leave)) (refl, refl, refl, refl, refl, refl, refl, refl, refl, refl, refl, refl, refl, refl, refl, refl, refl)
