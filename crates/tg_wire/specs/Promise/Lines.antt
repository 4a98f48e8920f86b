-- what a line is, or its first fault: event lines, steps, goals and configurations
use Rattle.std.specs.Prelude.{ℕ, List, [], ◌∷◌, Option, option_and_then, Result, codes}
use Rattle.serde_json.specs.Data.{Data}
use Rattle.tg_rights.specs.declared.command.Rule.{Rule}
use Rattle.tg_graph.specs.declared.derivation.Step.{Step}
use Rattle.tg_graph.specs.declared.derivation.Goal.{Goal}
use Rattle.tg_wire.specs.Promise.Fields.{string_in}
use Rattle.tg_wire.specs.Promise.Ops.{step_rules, rule_among, op_named, command_form, op_form, stepped}
use Rattle.tg_wire.specs.Promise.Configs.{Opening, goal_in, opening_in}
use Rattle.tg_wire.specs.Promise.Reading.{◌>>=◌, or_else, object_of, fields_of}
use Rattle.tg_wire.specs.declared.fault.WireFault.{WireFault}
use Rattle.tg_wire.specs.declared.fault.WireFault.TheVariants.{NoOp}
use Rattle.tg_wire.specs.declared.op.Op.{Op}
use Rattle.tg_wire.specs.declared.line.Line.{Line}

-- the op that the object names
abbrev pub op_in : Data → Option Op
op_in d = option_and_then op_named (string_in (codes "op") d)

-- the rule of the step that the object names
abbrev pub rule_in : Data → Option Rule
rule_in d = option_and_then (rule_among step_rules) (string_in (codes "op") d)

-- fields that each event line may have, and those that a configuration may have
abbrev pub line_extras : List (List ℕ)
line_extras = codes "op" ∷ codes "seat" ∷ []

abbrev pub opening_extras : List (List ℕ)
opening_extras = codes "edges" ∷ codes "next" ∷ codes "slots" ∷ codes "cells" ∷ []

-- what the object of an event line asks for
abbrev pub line_in : Data → Result Line WireFault
line_in d = do
  op ← or_else NoOp (op_in d)
  fields_of (op_form op).fields line_extras (op_form op).value d

unfoldable pub line_of : List ℕ → Result Line WireFault
line_of bytes = do
  d ← object_of bytes
  line_in d

-- one of the seven commands that a step of a derivation may be, and who acts
abbrev pub step_in : Data → Result Step WireFault
step_in d = do
  rule ← or_else NoOp (rule_in d)
  fields_of (stepped (command_form rule)).fields (codes "op" ∷ []) (stepped (command_form rule)).value d

unfoldable pub step_of : List ℕ → Result Step WireFault
step_of bytes = do
  d ← object_of bytes
  step_in d

unfoldable pub goal_of : List ℕ → Result Goal WireFault
goal_of bytes = do
  d ← object_of bytes
  fields_of (codes "from" ∷ codes "to" ∷ codes "rights" ∷ []) [] goal_in d

unfoldable pub config_of : List ℕ → Result Opening WireFault
config_of bytes = do
  d ← object_of bytes
  fields_of (codes "principals" ∷ []) opening_extras opening_in d
