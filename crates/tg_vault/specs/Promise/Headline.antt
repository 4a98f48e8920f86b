-- the headline: for every list of session and collector steps, each command is carried out exactly when the take-grant
-- rules allow it in the graph that is never collected, unless refused as full; every denial names its rule and missing
-- rights; no vertex reachable from a principal or an unfinished step loses its slot; what is unreachable when a cycle
-- starts has no slot when the next cycle ends. (A subject that a seat acts for counts as a principal there.)
use Rattle.std.specs.Prelude.{◌≡◌, ◌↔◌, ◌⊎◌, ℕ, ◌+◌, List, [], ◌∷◌, ◌++◌, length}
use Rattle.tg_rights.specs.declared.command.Rule.{Rule}
use Rattle.tg_rights.specs.declared.outcome.Cause.{Cause}
use Rattle.tg_rights.specs.declared.outcome.Which.{Which}
use Rattle.tg_rights.specs.declared.outcome.Outcome.TheVariants as outcome
use Rattle.tg_rights.specs.declared.outcome.Reply.{Reply}
use Rattle.tg_graph.specs.Promise.Protection.{Protection}
use Rattle.tg_graph.specs.Promise.Fullness.{Limits, MayBeFull}
use Rattle.tg_graph.specs.Promise.Rules.{Allowed, Denied, next_graph, reply_of}
use Rattle.tg_collect.specs.Promise.Readings.{PhaseTurns, phase}
use Rattle.tg_vault.specs.declared.entry.Entry.{Entry}
use Rattle.tg_vault.specs.declared.event.Event.{Event}
use Rattle.tg_vault.specs.declared.event.Event.TheVariants as event
use Rattle.tg_vault.specs.declared.event.Answer.{Answer}
use Rattle.tg_vault.specs.declared.event.Answer.TheVariants as answer
use Rattle.tg_vault.specs.Promise.Contents.{Contents, Keeps, RunOf, StepOf, graph_now, Fits, StoreAnswer}
use Rattle.tg_vault.specs.Promise.Cycles.{IsComplete}

-- the numbers and replies of the Asked answers, in order
abbrev pub asked_in : List Answer → List (ℕ × Reply)
asked_in [] = []
asked_in (answer.Asked number reply ∷ answers) = (number, reply) ∷ asked_in answers
asked_in (_ ∷ answers) = asked_in answers

-- the entries' numbers, from a number on, and replies, from a graph on
abbrev pub replies_from : Protection → ℕ → List Entry → List (ℕ × Reply)
replies_from G number [] = []
replies_from G number (e ∷ es) = (number, reply_of G e.actor e.command e.outcome) ∷ replies_from (next_graph G e.actor e.command e.outcome) (number + 1) es

-- the entries added are those of the Asked answers, in order
pub record AddsAsked (old : Contents) (answers : List Answer) (new : Contents) : Type 0 where
  pub added : List Entry
  pub history : new.history ≡ old.history ++ added
  pub asked : asked_in answers ≡ replies_from (graph_now old) (length old.history) added

-- something holds of each entry, and of the graph that the entries before it leave, from which nothing is ever
-- collected
abbrev pub EachEntry : (Protection → Entry → Type 0) → Protection → List Entry → Type 0
EachEntry P G [] = Unit {0}
EachEntry P G (e ∷ es) = P G e × EachEntry P (next_graph G e.actor e.command e.outcome) es

-- an entry is carried out only if the rules allow it; if they do, it is, unless it is refused as full; and it is
-- refused as full only if the rules allow it and it may be full
pub record IsCarriedOutWhenAllowed (limits : Limits) (G : Protection) (e : Entry) : Type 0 where
  pub only : e.outcome ≡ outcome.Allowed → Allowed G e.actor e.command
  pub unless_full : Allowed G e.actor e.command → (e.outcome ≡ outcome.Allowed) ⊎ ((w : Which) × (e.outcome ≡ outcome.Full w))
  pub full : (w : Which) → e.outcome ≡ outcome.Full w → Allowed G e.actor e.command × MayBeFull limits G e.actor e.command w

-- an entry is denied exactly if the rules deny it, by the command's rule and for the first cause, with the missing
-- rights
abbrev pub IsDenialNamed : Protection → Entry → Type 0
IsDenialNamed G e = (rule : Rule) (cause : Cause) → (e.outcome ≡ outcome.Denied rule cause) ↔ Denied G e.actor e.command rule cause

-- the store's phase: a collector step turns it as its note says, and nothing else does
abbrev pub PhaseStep : Contents → Event → Answer → Contents → Type 0
PhaseStep old event.Collect (answer.Noted note) new = (note.phase ≡ phase new.store) × PhaseTurns (phase old.store) note.phase note.ended
PhaseStep old event.Collect _ new = ⊥
PhaseStep old _ _ new = phase new.store ≡ phase old.store

-- one event: its answer by the world, the phase, what the answer says of the store, and again a vault whose store fits
-- the graph of the history
pub record EventStep (old : Contents) (e : Event) (a : Answer) (new : Contents) : Type 0 where
  pub step : StepOf old e a new
  pub keeps : Keeps old new
  pub turns : PhaseStep old e a new
  pub told : StoreAnswer old e a new
  pub fits : Fits new

-- the events have these answers, one after another, with the contents in between
abbrev pub EventCourse : Contents → List Event → List Answer → Contents → Type 0
EventCourse old [] [] new = new ≡ old
EventCourse old (e ∷ es) (a ∷ answers) new = (between : Contents) × EventStep old e a between × EventCourse between es answers new
EventCourse old _ _ new = ⊥

-- a run, and what it did to the history and to the store; what is kept is kept after each event on the way, too
pub record Headline (old : Contents) (es : List Event) (answers : List Answer) (new : Contents) : Type 0 where
  pub run : RunOf old es answers new
  pub carried_out : EachEntry (IsCarriedOutWhenAllowed new.limits) new.opening new.history
  pub denied : EachEntry IsDenialNamed new.opening new.history
  pub course : EventCourse old es answers new
  pub kept : Fits new
  pub complete : IsComplete old es answers new
