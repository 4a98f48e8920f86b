-- answers to whether rights can be shared
use Rattle.std.specs.Prelude.{◌<◌, List}
use Rattle.tg_graph.specs.declared.derivation.Goal.{Goal}
use Rattle.tg_graph.specs.declared.derivation.Step.{Step}
use Rattle.tg_graph.specs.Promise.Derivations.{CanShare, Derives, IsShared}
use Rattle.tg_graph.specs.Promise.Protection.{Protection}
use Rattle.tg_graph.specs.Promise.Rules.{last_serial}
use Rattle.tg_sharing.specs.declared.sharing.Answer.{Answer}
use Rattle.tg_sharing.specs.declared.sharing.Answer.TheVariants as answer

-- the steps lead to a graph that meets the goal
abbrev pub AreStepsTo : Protection → Goal → List Step → Type 0
AreStepsTo G goal steps = (H : Protection) × Derives G steps H × IsShared H goal

-- no steps lead to the goal; these do; or it is not known, and no serial is left after these
abbrev pub IsAnswer : Protection → Goal → Answer → Type 0
IsAnswer G goal answer.Never = CanShare G goal → ⊥
IsAnswer G goal (answer.By steps) = AreStepsTo G goal steps.items
IsAnswer G goal (answer.Unknown steps) = (H : Protection) × Derives G steps.items H × (last_serial < H.next)
