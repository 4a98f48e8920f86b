-- an actor cannot tell by a command which of two graphs it meets
use Rattle.std.specs.Prelude.{◌≡◌, ℕ, false, [], ◌∷◌, ◌++◌}
use Rattle.tg_rights.specs.declared.command.Command.{Command}
use Rattle.tg_rights.specs.declared.outcome.Outcome.{Outcome}
use Rattle.tg_rights.specs.declared.outcome.Outcome.TheVariants as outcome
use Rattle.tg_rights.specs.declared.outcome.Reply.{Reply}
use Rattle.tg_graph.specs.Promise.Protection.{Protection, IsGraph, Agree}
use Rattle.tg_graph.specs.Promise.Rules.{Judged, is_create, reply_of}
use Rattle.tg_vault.specs.declared.entry.Entry.{Entry}
use Rattle.tg_vault.specs.Promise.Contents.{Contents, graph_now}

-- the rules give this outcome in the graph; they allow a command that was refused as full
abbrev pub JudgedAlike : Protection → ℕ → Command → Outcome → Type 0
JudgedAlike H x c outcome.Allowed = Judged H x c outcome.Allowed
JudgedAlike H x c (outcome.Denied rule cause) = Judged H x c (outcome.Denied rule cause)
JudgedAlike H x c (outcome.Full which) = Judged H x c outcome.Allowed

-- the reply is not Full, and names no new serial
abbrev pub IsOfGraph : ℕ → Command → Outcome → Type 0
IsOfGraph x c outcome.Allowed = is_create x c ≡ false
IsOfGraph x c (outcome.Denied rule cause) = Unit {0}
IsOfGraph x c (outcome.Full which) = ⊥

-- the outcome and the reply, Full and the new serial aside, are those of each graph that the actor cannot tell from the
-- graph of the history
pub record SameForAgreeing (old new : Contents) (answer : Reply) : Type 0 where
  pub entry : Entry
  pub added : new.history ≡ old.history ++ entry ∷ []
  pub outcome : (H : Protection) → Agree (graph_now old) H entry.actor → JudgedAlike H entry.actor entry.command entry.outcome
  pub reply : (H : Protection) → IsGraph H → Agree (graph_now old) H entry.actor → IsOfGraph entry.actor entry.command entry.outcome →
      answer ≡ reply_of H entry.actor entry.command entry.outcome
