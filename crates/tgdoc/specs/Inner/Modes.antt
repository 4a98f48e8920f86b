-- what the parser reads of a command line
use Rattle.std.specs.Prelude.{ℕ, List, [], ◌∷◌, ◌++◌, Some, fold, codes, true}
use Rattle.clap.specs.Words.{App, Rule, Shape, new_app, new_rule, with_subcommand}
use Rattle.clap.specs.Simple.{new_shape}
use Rattle.clap.specs.declared.builder.action.ArgAction.TheVariants.{SetTrue}
use Rattle.clap.specs.declared.builder.value_parser.ValueParser.TheVariants as parser
use Rattle.tgdoc.specs.declared.modes.Mode.{Mode}
use Rattle.tgdoc.specs.declared.modes.Mode.TheVariants.{Run, Audit}
use Rattle.tgdoc.specs.Promise.Modes.{word_of}

-- the modes that take no words of their own, in the order in which help lists them
abbrev pub modes : List Mode
modes = Run ∷ Audit ∷ []

-- the command without its subcommands: it takes `--version`, and wants a subcommand
abbrev pub program_read : App
program_read = record { top = record (new_app (codes "tgdoc")).top { subcommand_required = true; has_version = true }; subs = [] }

-- an option with a value
abbrev pub option_read : List ℕ → Rule
option_read name = record (new_rule name) { long = Some name; value_names = 1 }

-- the options of `serve`
abbrev pub listen_read : Rule
listen_read = record (option_read (codes "listen")) { required = true }

abbrev pub workers_read : Rule
workers_read = record (option_read (codes "workers")) { parser = Some (parser.Unsigned 1 63); defaults = codes "4" ∷ [] }

abbrev pub connections_read : Rule
connections_read = record (option_read (codes "connections")) { parser = Some (parser.Unsigned 1 1000000) }

abbrev pub round_read : Rule
round_read = record (option_read (codes "round")) { parser = Some (parser.Unsigned 1 1000000) }

abbrev pub patience_read : Rule
patience_read = record (option_read (codes "patience")) { parser = Some (parser.Unsigned 1 86400) }

abbrev pub memory_read : Rule
memory_read = option_read (codes "memory")

-- those that say where clients are served, and how many
abbrev pub clients_read : Shape
clients_read = record (new_shape (codes "serve")) { rules = listen_read ∷ workers_read ∷ connections_read ∷ [] }

-- and those that bound a server
abbrev pub bounded_read : Shape
bounded_read = record clients_read { rules = clients_read.rules ++ round_read ∷ patience_read ∷ memory_read ∷ [] }

-- and those by which it is attended
abbrev pub control_read : Rule
control_read = option_read (codes "control")

abbrev pub log_read : Rule
log_read = record (new_rule (codes "log")) { long = Some (codes "log"); action = Some SetTrue }

abbrev pub history_read : Rule
history_read = option_read (codes "history")

abbrev pub serve_read : Shape
serve_read = record bounded_read { rules = bounded_read.rules ++ control_read ∷ log_read ∷ history_read ∷ [] }

-- `draw`, with its flag
abbrev pub each_read : Rule
each_read = record (new_rule (codes "each")) { long = Some (codes "each"); action = Some SetTrue }

abbrev pub draw_read : Shape
draw_read = record (new_shape (codes "draw")) { rules = each_read ∷ [] }

-- the options of `share`, and its flag
abbrev pub from_read : Rule
from_read = option_read (codes "from")

abbrev pub to_read : Rule
to_read = option_read (codes "to")

abbrev pub rights_read : Rule
rights_read = record (option_read (codes "rights")) { required = true }

abbrev pub most_read : Rule
most_read = record (option_read (codes "most")) { parser = Some (parser.Unsigned 1 1000000000) }

abbrev pub steps_read : Rule
steps_read = record (new_rule (codes "steps")) { long = Some (codes "steps"); action = Some SetTrue }

-- those that say what is asked
abbrev pub asking_read : Shape
asking_read = record (new_shape (codes "share")) { rules = from_read ∷ to_read ∷ rights_read ∷ [] }

abbrev pub share_read : Shape
share_read = record asking_read { rules = asking_read.rules ++ most_read ∷ steps_read ∷ [] }

-- the arguments of `control`: who is asked for what
abbrev pub path_read : Rule
path_read = record (new_rule (codes "PATH")) { required = true }

abbrev pub request_read : Rule
request_read = record (new_rule (codes "REQUEST")) { required = true }

abbrev pub addressed_read : Shape
addressed_read = record (new_shape (codes "control")) { rules = path_read ∷ request_read ∷ [] }

-- and its options
abbrev pub within_read : Rule
within_read = record (option_read (codes "within")) { parser = Some (parser.Unsigned 0 86400) }

abbrev pub watch_read : Rule
watch_read = record (option_read (codes "watch")) { parser = Some (parser.Unsigned 1 86400) }

abbrev pub asked_read : Shape
asked_read = record addressed_read { rules = addressed_read.rules ++ within_read ∷ watch_read ∷ [] }

-- what the parser reads of the command: each mode is a subcommand, with its word; `draw`, `share`, `serve` and `control`
-- have arguments
abbrev pub alone_read : App
alone_read = fold (λ app mode. with_subcommand app (new_app (word_of mode)).top) program_read modes

abbrev pub command_read : App
command_read = with_subcommand (with_subcommand (with_subcommand (with_subcommand alone_read draw_read) share_read) serve_read) asked_read
