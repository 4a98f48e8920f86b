-- histories: the entries of commands that the rules permit, one after another, from the opening graph on
use Rattle.std.specs.Prelude.{◌≡◌, ◌⊎◌, ℕ, List, [], ◌∷◌, ◌++◌, true}
use Rattle.tg_lists.specs.Promise.Membership.{Contains}
use Rattle.tg_rights.specs.declared.command.Command.TheVariants as command
use Rattle.tg_rights.specs.declared.outcome.Outcome.TheVariants as outcome
use Rattle.tg_graph.specs.Promise.Fullness.{Limits, Permitted}
use Rattle.tg_graph.specs.Promise.Protection.{Protection, is_active}
use Rattle.tg_graph.specs.Promise.Rules.{next_graph}
use Rattle.tg_vault.specs.declared.entry.Entry.{Entry}

-- an earlier entry is that x retired
abbrev pub WasRetired : (earlier : List Entry) → (x : ℕ) → Type 0
WasRetired earlier x = (e : Entry) × Contains earlier e × (e.actor ≡ x) × (e.command ≡ command.Retire) × (e.outcome ≡ outcome.Allowed)

-- x is a principal, or was one until an earlier entry
abbrev pub WasPrincipal : Protection → (earlier : List Entry) → (x : ℕ) → Type 0
WasPrincipal G earlier x = (is_active G x ≡ true) ⊎ WasRetired earlier x

-- an earlier entry of the seat made x its agent
abbrev pub WasAssumed : (earlier : List Entry) → (seat x : ℕ) → Type 0
WasAssumed earlier seat x = (e : Entry) × Contains earlier e × (e.seat ≡ seat) × (e.command ≡ command.Assume x) × (e.outcome ≡ outcome.Allowed)

-- who may ask from a seat: a principal, one who was until an earlier entry, or one whom the seat assumed
abbrev pub MayAsk : Protection → (earlier : List Entry) → (seat x : ℕ) → Type 0
MayAsk G earlier seat x = (is_active G x ≡ true) ⊎ (WasRetired earlier x ⊎ WasAssumed earlier seat x)

-- the entry, of somebody who may ask after the earlier ones, leads from one graph to the next
abbrev pub EntryStep : Limits → (earlier : List Entry) → Protection → Entry → Protection → Type 0
EntryStep limits earlier G e H =
    MayAsk G earlier e.seat e.actor × Permitted limits G e.actor e.command e.outcome × (H ≡ next_graph G e.actor e.command e.outcome)

-- the entries lead from one graph to another, by the graphs in between
abbrev pub EntryRun : Limits → (earlier : List Entry) → Protection → List Entry → Protection → Type 0
EntryRun limits earlier G [] H = H ≡ G
EntryRun limits earlier G (e ∷ es) H = (between : Protection) × EntryStep limits earlier G e between × EntryRun limits (earlier ++ e ∷ []) between es H

-- the rules permit the entries from the opening graph on, and G is the graph of the history
pub record Legal (limits : Limits) (opening : Protection) (entries : List Entry) (G : Protection) : Type 0 where
  pub graphs : EntryRun limits [] opening entries G

-- the graph of a legal history
abbrev pub graph_of : Protection → List Entry → Protection
graph_of G [] = G
graph_of G (e ∷ es) = graph_of (next_graph G e.actor e.command e.outcome) es
