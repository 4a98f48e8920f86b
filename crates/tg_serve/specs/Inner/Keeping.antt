-- how much the history and the logs of a round take, as it is counted
use Rattle.std.specs.Prelude.{ℕ, ◌+◌, ◌*◌, length}
use Rattle.tg_rights.specs.declared.command.Command.{Command}
use Rattle.tg_rights.specs.declared.command.Command.TheVariants as command
use Rattle.tg_rights.specs.declared.outcome.Reply.{Reply}
use Rattle.tg_rights.specs.declared.outcome.Reply.TheVariants as reply

-- a text is kept once, with a block by which its copies share it; a name twice, in the history and in the log
abbrev pub command_bytes : Command → ℕ
command_bytes (command.Write over text) = 48 + length text
command_bytes (command.Enrol name rights) = 2 * length name
command_bytes _ = 0

-- edges that are told are kept in the log, 32 bytes for each; a text is shared with its write, which counted it, or
-- with the graph with which the round began
abbrev pub reply_bytes : Reply → ℕ
reply_bytes (reply.Edges edges) = 32 * length edges
reply_bytes _ = 0

-- an exchange, with its entry
abbrev pub exchange_bytes : Command → Reply → ℕ
exchange_bytes c r = 320 + command_bytes c + reply_bytes r
