-- a history as a derivation: what its entries did to the edges, by the four rules of the take-grant model
use Rattle.std.specs.Prelude.{filter_map, List, Option, None}
use Rattle.tg_rights.specs.declared.outcome.Outcome.{Outcome}
use Rattle.tg_rights.specs.declared.outcome.Outcome.TheVariants as outcome
use Rattle.tg_graph.specs.declared.derivation.Step.{Step}
use Rattle.tg_graph.specs.Promise.Derivations.{Derives}
use Rattle.tg_graph.specs.Promise.Protection.{IsGraph, Protection}
use Rattle.tg_graph.specs.Promise.Rewriting.{HasRightsOf, rewriting_step}
use Rattle.tg_vault.specs.declared.entry.Entry.{Entry}
use Rattle.tg_vault.specs.Promise.Contents.{Contents, graph_now}
use Rattle.tg_vault.specs.Promise.History.{Legal}

-- the step that changes edges as a command with this outcome did, if it changed any
abbrev pub rewriting_of : Step → Outcome → Option Step
rewriting_of s outcome.Allowed = rewriting_step s
rewriting_of s (outcome.Denied rule why) = None
rewriting_of s (outcome.Full which) = None

abbrev pub entry_step : Entry → Option Step
entry_step e = rewriting_of (record { actor = e.actor; command = e.command }) e.outcome

-- the steps of all entries, in order
abbrev pub derivation_of : List Entry → List Step
derivation_of entries = filter_map entry_step entries

-- from each graph with the rights of the opening, in which nobody has retired, the steps of a legal history lead to one
-- with the rights of the graph that the history leaves
abbrev pub HistoriesDerive : Type 0
HistoriesDerive =
    (v : Contents) (H : Protection) → IsGraph v.opening → Legal v.limits v.opening v.history (graph_now v) → HasRightsOf H v.opening →
    (reached : Protection) × Derives H (derivation_of v.history) reached × HasRightsOf reached (graph_now v)
