-- the lines of a derivation as an auditor reads them: steps and a goal, written with their keys in rising order
use Rattle.std.specs.Prelude.{◌≡◌, ◌<◌, ◌^◌, ℕ, List, Ok, codes}
use Rattle.serde_json.specs.Data.{Data, string, number, unsigned, object, Members, no_members, member}
use Rattle.serde_json.specs.Written.{compact_text}
use Rattle.tg_rights.specs.Promise.Written.{rights_text}
use Rattle.tg_rights.specs.declared.kind.Kind.{Kind}
use Rattle.tg_rights.specs.declared.kind.Kind.TheVariants as kind
use Rattle.tg_rights.specs.declared.command.Command.{Command}
use Rattle.tg_rights.specs.declared.command.Command.TheVariants as command
use Rattle.tg_graph.specs.declared.derivation.Goal.{Goal}
use Rattle.tg_graph.specs.declared.derivation.Step.{Step}
use Rattle.tg_wire.specs.Promise.Faults.{line_text}
use Rattle.tg_wire.specs.Promise.Lines.{goal_of, step_of}

abbrev pub kind_text : Kind → List ℕ
kind_text kind.Subject = codes "subject"
kind_text kind.Document = codes "document"

abbrev field_number : List ℕ → ℕ → Members → Members
field_number key n ms = member key (number (unsigned n)) ms

abbrev field_text : List ℕ → List ℕ → Members → Members
field_text key text ms = member key (string text) ms

-- the fields of a step: those of its command, and its actor in place of a seat
abbrev pub step_members : ℕ → Command → Members
step_members x (command.Take α over from) = field_number (codes "actor") x (field_number (codes "from") from (field_text (codes "op") (codes "take") (field_number (codes "over") over (field_text (codes "rights") (rights_text α) no_members))))
step_members x (command.Grant α over to) = field_number (codes "actor") x (field_text (codes "op") (codes "grant") (field_number (codes "over") over (field_text (codes "rights") (rights_text α) (field_number (codes "to") to no_members))))
step_members x (command.Create k α) = field_number (codes "actor") x (field_text (codes "kind") (kind_text k) (field_text (codes "op") (codes "create") (field_text (codes "rights") (rights_text α) no_members)))
step_members x (command.Remove α over) = field_number (codes "actor") x (field_text (codes "op") (codes "remove") (field_number (codes "over") over (field_text (codes "rights") (rights_text α) no_members)))
step_members x (command.Read over) = field_number (codes "actor") x (field_text (codes "op") (codes "read") (field_number (codes "over") over no_members))
step_members x (command.Write over text) = field_number (codes "actor") x (field_text (codes "op") (codes "write") (field_number (codes "over") over (field_text (codes "text") text no_members)))
step_members x (command.Look at) = field_number (codes "actor") x (field_number (codes "at") at (field_text (codes "op") (codes "look") no_members))
step_members x (command.Enrol name α) = field_number (codes "actor") x (field_text (codes "name") name (field_text (codes "op") (codes "enrol") (field_text (codes "rights") (rights_text α) no_members)))
step_members x command.Retire = field_number (codes "actor") x (field_text (codes "op") (codes "retire") no_members)
step_members x (command.Assume agent) = field_number (codes "actor") x (field_number (codes "agent") agent (field_text (codes "op") (codes "assume") no_members))
step_members x command.Leave = field_number (codes "actor") x (field_text (codes "op") (codes "leave") no_members)

abbrev pub step_data : Step → Data
step_data s = object (step_members s.actor s.command)

abbrev pub goal_members : Goal → Members
goal_members g = field_number (codes "from") g.from (field_text (codes "rights") (rights_text g.rights) (field_number (codes "to") g.to no_members))

abbrev pub goal_data : Goal → Data
goal_data g = object (goal_members g)

-- a step, and a goal, as an auditor reads them: without the line feed
unfoldable pub step_text : Step → List ℕ
step_text s = compact_text (step_data s)

unfoldable pub goal_text : Goal → List ℕ
goal_text g = compact_text (goal_data g)

-- and their lines
unfoldable pub step_line : Step → List ℕ
step_line s = line_text (step_data s)

unfoldable pub goal_line : Goal → List ℕ
goal_line g = line_text (goal_data g)

-- the numbers of one of the four rules' commands are in the range of their type; no other command is by one of them
abbrev pub Rewrites : Command → Type 0
Rewrites (command.Take α over from) = (over < 2 ^ 64) × (from < 2 ^ 64)
Rewrites (command.Grant α over to) = (over < 2 ^ 64) × (to < 2 ^ 64)
Rewrites (command.Create k α) = Unit {0}
Rewrites (command.Remove α over) = over < 2 ^ 64
Rewrites (command.Read over) = ⊥
Rewrites (command.Write over text) = ⊥
Rewrites (command.Look at) = ⊥
Rewrites (command.Enrol name α) = ⊥
Rewrites command.Retire = ⊥
Rewrites (command.Assume agent) = ⊥
Rewrites command.Leave = ⊥

-- a step by take, grant, create or remove is read back from its line
abbrev pub StepsReadBack : Type 0
StepsReadBack = (s : Step) → s.actor < 2 ^ 64 → Rewrites s.command → step_of (step_text s) ≡ Ok s

-- and so is a goal
abbrev pub GoalsReadBack : Type 0
GoalsReadBack = (g : Goal) → g.from < 2 ^ 64 → g.to < 2 ^ 64 → goal_of (goal_text g) ≡ Ok g
