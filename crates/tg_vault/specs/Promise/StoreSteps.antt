-- what an event does to the store of a vault
use Rattle.std.specs.Prelude.{◌≡◌, ◌≤◌, ◌⊎◌, ℕ, Option, Some}
use Rattle.tg_graph.specs.Promise.Protection.{Live}
use Rattle.tg_vault.specs.declared.event.Event.{Event}
use Rattle.tg_vault.specs.declared.event.Event.TheVariants as event
use Rattle.tg_vault.specs.declared.event.Answer.{Answer}
use Rattle.tg_vault.specs.declared.event.Answer.TheVariants as answer
use Rattle.tg_collect.specs.Promise.Readings.{IsRootIn, phase}
use Rattle.tg_collect.specs.Promise.Views.{Collected}
use Rattle.tg_collect.specs.Promise.Sessions.{Acted}
use Rattle.tg_vault.specs.Promise.Contents.{Contents, graph_now, held_now}

-- a session step: a new serial is the next one, and a target is live or new
pub record SessionStep (old new : Contents) : Type 0 where
  pub came : Option ℕ
  pub target : Option ℕ
  pub acted : Acted old.store new.store came target
  pub next : (x : ℕ) → came ≡ Some x → (graph_now old).next ≤ x
  pub live : (x : ℕ) → target ≡ Some x → Live (held_now old) (IsRootIn old.store) x ⊎ ((graph_now old).next ≤ x)

-- a collector step and the phase after it for a collect, a session step for any other event
abbrev pub StoreStep : Contents → Event → Answer → Contents → Type 0
StoreStep old event.Collect (answer.Noted note) new = Collected old.store new.store note.freed note.ended × (note.phase ≡ phase new.store)
StoreStep old event.Collect _ new = ⊥
StoreStep old (event.Hello seat name) a new = SessionStep old new
StoreStep old (event.Bye seat) a new = SessionStep old new
StoreStep old (event.Ask seat c) a new = SessionStep old new
StoreStep old (event.Shade seat) a new = SessionStep old new
