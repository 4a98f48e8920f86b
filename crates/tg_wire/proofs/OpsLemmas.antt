-- Which rule has a word, and which fields a good line has.
use Rattle.std.proofs.Common.{◌≡◌, ◌++◌, ℕ, List, true, Option, Some, None, is_some, option_and_then, bytes_eq, refl, arith}
use Rattle.std.specs.Option.{option_or}
use Rattle.std.proofs.lemmas.List.Folds.{find-append}
use Rattle.serde_json.specs.Data.{Data}
use Rattle.tg_rights.specs.declared.command.Command.{Command}
use Rattle.tg_rights.specs.declared.command.Rule.{Rule}
use Rattle.tg_rights.specs.declared.command.Rule.TheVariants as rule
use Rattle.tg_vault.specs.declared.event.Event.TheVariants as event
use Rattle.tg_wire.specs.Promise.Fields.{seat_in}
use Rattle.tg_wire.specs.Promise.Ops.{command_form, op_form, step_rules, roll_rules, acting_rules, every_rule, rule_among}
use Rattle.tg_wire.specs.Promise.Reading.{has_all}
use Rattle.tg_wire.specs.declared.line.Line.{Line}
use Rattle.tg_wire.specs.declared.line.Line.TheVariants.{Act}
use Rattle.tg_wire.specs.declared.op.Op.{Op}
use Rattle.tg_wire.specs.declared.op.Op.TheVariants as op

pub among_every : (word : List ℕ) → rule_among every_rule word ≡ option_or (rule_among step_rules word) (rule_among (roll_rules ++ acting_rules) word)
among_every word = find-append (λ rule. bytes_eq word (command_form rule).word) step_rules (roll_rules ++ acting_rules)

-- a good command has its fields
command_given : (r : Rule) (d : Data) → is_some ((command_form r).value d) ≡ true → has_all (command_form r).fields d ≡ true
command_given rule.Retire d good = refl
command_given rule.Leave d good = refl
command_given _ d good = grind arith

asked_some : (seat : Option ℕ) (asked : Option Command) (line : Line)
    → option_and_then (λ s. option_and_then (λ c. Some (Act (event.Ask s c))) asked) seat ≡ Some line → is_some asked ≡ true
asked_some None asked line is = absurd (cc)
asked_some (Some s) None line is = absurd (cc)
asked_some (Some s) (Some c) line is = refl

-- a good line has its fields
pub line_given : (o : Op) (d : Data) (line : Line) → (op_form o).value d ≡ Some line → has_all (op_form o).fields d ≡ true
line_given op.Hello d line is = grind arith
line_given (op.Ask r) d line is = command_given r d (asked_some (seat_in d) ((command_form r).value d) line is)
line_given _ d line is = refl
