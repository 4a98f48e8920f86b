-- the ops: each has a word, the fields that it asks for, and its value
use Rattle.std.specs.Prelude.{ℕ, List, [], ◌∷◌, ◌++◌, map, Option, Some, codes}
use Rattle.std.specs.List.{find}
use Rattle.std.specs.Str.{bytes_eq}
use Rattle.serde_json.specs.Data.{Data}
use Rattle.tg_rights.specs.declared.command.Rule.{Rule}
use Rattle.tg_rights.specs.declared.command.Rule.TheVariants as rule
use Rattle.tg_rights.specs.declared.command.Command.{Command}
use Rattle.tg_rights.specs.declared.command.Command.TheVariants as command
use Rattle.tg_graph.specs.declared.derivation.Step.{Step}
use Rattle.tg_vault.specs.declared.event.Event.TheVariants as event
use Rattle.tg_wire.specs.Promise.Fields.{◌>>=◌, number_in, string_in, rights_in, kind_in, text_field, name_field, seat_in}
use Rattle.tg_wire.specs.declared.line.Line.{Line}
use Rattle.tg_wire.specs.declared.line.Line.TheVariants.{Act, Cycle}
use Rattle.tg_wire.specs.declared.op.Op.{Op}
use Rattle.tg_wire.specs.declared.op.Op.TheVariants as op

-- a word, the fields that have to be there, and the value: none if a field that is given is bad
pub record Form (A : Type 0) : Type 0 where
  pub word : List ℕ
  pub fields : List (List ℕ)
  pub value : Data → Option A

-- the commands: one equation for each
abbrev pub command_form : Rule → Form Command
command_form rule.Take = record {
  word = codes "take";
  fields = codes "rights" ∷ codes "over" ∷ codes "from" ∷ [];
  value = λ d. do
    rights ← rights_in d
    over ← number_in (codes "over") d
    from ← number_in (codes "from") d
    Some (command.Take rights over from);
}
command_form rule.Grant = record {
  word = codes "grant";
  fields = codes "rights" ∷ codes "over" ∷ codes "to" ∷ [];
  value = λ d. do
    rights ← rights_in d
    over ← number_in (codes "over") d
    to ← number_in (codes "to") d
    Some (command.Grant rights over to);
}
command_form rule.Create = record {
  word = codes "create";
  fields = codes "kind" ∷ codes "rights" ∷ [];
  value = λ d. do
    kind ← kind_in d
    rights ← rights_in d
    Some (command.Create kind rights);
}
command_form rule.Remove = record {
  word = codes "remove";
  fields = codes "rights" ∷ codes "over" ∷ [];
  value = λ d. do
    rights ← rights_in d
    over ← number_in (codes "over") d
    Some (command.Remove rights over);
}
command_form rule.Read = record {
  word = codes "read";
  fields = codes "over" ∷ [];
  value = λ d. do
    over ← number_in (codes "over") d
    Some (command.Read over);
}
command_form rule.Write = record {
  word = codes "write";
  fields = codes "over" ∷ codes "text" ∷ [];
  value = λ d. do
    over ← number_in (codes "over") d
    text ← text_field d
    Some (command.Write over text);
}
command_form rule.Look = record {
  word = codes "look";
  fields = codes "at" ∷ [];
  value = λ d. do
    at ← number_in (codes "at") d
    Some (command.Look at);
}
command_form rule.Enrol = record {
  word = codes "enrol";
  fields = codes "name" ∷ codes "rights" ∷ [];
  value = λ d. do
    rights ← rights_in d
    name ← name_field d
    Some (command.Enrol name rights);
}
command_form rule.Retire = record {
  word = codes "retire";
  fields = [];
  value = λ d. Some command.Retire;
}
command_form rule.Assume = record {
  word = codes "assume";
  fields = codes "agent" ∷ [];
  value = λ d. do
    agent ← number_in (codes "agent") d
    Some (command.Assume agent);
}
command_form rule.Leave = record {
  word = codes "leave";
  fields = [];
  value = λ d. Some command.Leave;
}

-- a command at a seat, and a command in a derivation
abbrev pub asked : Form Command → Form Line
asked form = record {
  word = form.word;
  fields = form.fields;
  value = λ d. do
    seat ← seat_in d
    command ← form.value d
    Some (Act (event.Ask seat command));
}

abbrev pub stepped : Form Command → Form Step
stepped form = record {
  word = form.word;
  fields = codes "actor" ∷ form.fields;
  value = λ d. do
    actor ← number_in (codes "actor") d
    command ← form.value d
    Some (record { actor = actor; command = command });
}

-- an op with no field but the seat
abbrev pub of_seat : List ℕ → (ℕ → Line) → Form Line
of_seat word line = record {
  word = word;
  fields = [];
  value = λ d. do
    seat ← seat_in d
    Some (line seat);
}

-- the lines of a run
abbrev pub op_form : Op → Form Line
op_form op.Hello = record {
  word = codes "hello";
  fields = codes "name" ∷ [];
  value = λ d. do
    seat ← seat_in d
    name ← string_in (codes "name") d
    Some (Act (event.Hello seat name));
}
op_form op.Bye = of_seat (codes "bye") (λ seat. Act (event.Bye seat))
op_form op.Shade = of_seat (codes "shade") (λ seat. Act (event.Shade seat))
-- a collector step has no seat, but one that is given is a number
op_form op.Collect = of_seat (codes "collect") (λ _. Act event.Collect)
op_form op.Cycle = of_seat (codes "cycle") (λ _. Cycle)
op_form (op.Ask rule) = asked (command_form rule)

-- the rules of the seven commands that a step of a derivation may be
abbrev pub step_rules : List Rule
step_rules = rule.Take ∷ rule.Grant ∷ rule.Create ∷ rule.Remove ∷ rule.Read ∷ rule.Write ∷ rule.Look ∷ []

-- those by which principals come and go
abbrev pub roll_rules : List Rule
roll_rules = rule.Enrol ∷ rule.Retire ∷ []

-- those by which a seat acts for another, and no longer
abbrev pub acting_rules : List Rule
acting_rules = rule.Assume ∷ rule.Leave ∷ []

abbrev pub every_rule : List Rule
every_rule = step_rules ++ (roll_rules ++ acting_rules)

-- which of these rules has this word
abbrev pub rule_among : List Rule → List ℕ → Option Rule
rule_among rules word = find (λ rule. bytes_eq word (command_form rule).word) rules

abbrev pub ops : List Op
ops = op.Hello ∷ op.Bye ∷ op.Shade ∷ op.Collect ∷ op.Cycle ∷ map op.Ask every_rule

abbrev pub op_named : List ℕ → Option Op
op_named word = find (λ op. bytes_eq word (op_form op).word) ops
