-- Why an answer is right.
use Rattle.std.proofs.Common.{◌≡◌, ◌∷◌, [], List, true, false, refl, sym, subst, ◌∙◌, inl, inr}
use Rattle.tg_rights.specs.Promise.Letters.{Letters, Right, read, has, includes, is_none}
use Rattle.tg_rights.proofs.LettersLemmas.{are_set_operations, right_some}
use Rattle.tg_graph.specs.declared.derivation.Goal.{Goal}
use Rattle.tg_graph.specs.declared.derivation.Step.{Step}
use Rattle.tg_graph.specs.Promise.Derivations.{CanShare, Derives, IsShared}
use Rattle.tg_graph.specs.Promise.Laws.{CommandsKeepGraphs}
use Rattle.tg_graph.specs.Promise.Protection.{Protection, IsGraph, IsVertex, label}
use Rattle.tg_sharing.specs.Promise.Fetching.{alone}
use Rattle.tg_sharing.specs.Inner.Fetching.{AreFetched, IsFetched, IsLacking}
use Rattle.tg_sharing.specs.Promise.Laws.{WithheldForEver}
use Rattle.tg_sharing.specs.Inner.Marking.{is_bridged, is_spanned}
use Rattle.tg_sharing.specs.Inner.Paths.{Holds}
use Rattle.tg_sharing.specs.Promise.Spans.{AreClosed}
use Rattle.tg_sharing.specs.declared.marks.Marks.{Marks}
use Rattle.tg_sharing.specs.declared.sharing.Found.{Found}
use Rattle.tg_sharing.specs.declared.sharing.Found.TheVariants as found
use Rattle.tg_sharing.proofs.GrowingLemmas.{held_apart, holds_all, holds_right, includes_alone}

pub alone_has : (r : Right) → has (alone r) r ≡ true
alone_has read = refl
alone_has _ = refl

-- a goal of no rights is met
pub nothing_shared : (G : Protection) (goal : Goal) → is_none goal.rights ≡ true → IsShared G goal
nothing_shared G goal none = (are_set_operations.inclusion (label G goal.from goal.to) goal.rights).1 (λ r h. absurd (cc (none, right_some goal.rights r h)))

-- steps lead from a graph to a graph
graph_kept : CommandsKeepGraphs → (steps : List Step) (G H : Protection) → IsGraph G → Derives G steps H → IsGraph H
graph_kept keep [] G H g is = subst IsGraph (sym is) g
graph_kept keep (s ∷ ss) G H g (K, first, rest) =
    graph_kept keep ss K H (subst IsGraph (sym first.result) (keep G s.actor s.command g first.subject first.allowed).0) rest

-- no vertex comes to have rights over itself
pub never_itself : CommandsKeepGraphs → (G : Protection) (goal : Goal) → IsGraph G → goal.from ≡ goal.to → is_none goal.rights ≡ false → CanShare G goal → ⊥
never_itself keep G goal g same some can =
    held_apart can.reached (graph_kept keep can.steps G can.reached g can.derived) goal.from goal.rights goal.to some can.shared same

-- what all lack is never shared
pub never_shared : WithheldForEver → (G : Protection) (goal : Goal) (m : Marks) (r : Right) → IsGraph G → IsVertex G goal.from → IsVertex G goal.to → m.from ≡ goal.from →
    AreClosed G goal.from (is_spanned m) (is_bridged m) → IsLacking G m (alone r) goal → CanShare G goal → ⊥
never_shared law G goal m r g from to own closed lacking =
    law G goal (is_spanned m) (is_bridged m) r g (g.below_next goal.from from) (g.below_next goal.to to) closed
    ((are_set_operations.inclusion goal.rights (alone r)).0 lacking.0 r (alone_has r))
    (λ u either h. lacking.1 u (includes_alone (label G u goal.to) r h, elim either [ inl is ↦ inl (is ∙ sym own) | inr p ↦ inr p ]))

-- right by right, the goal is met
pub all_shared : (G H : Protection) (m : Marks) (goal : Goal) → AreFetched G H m goal found.Here → IsShared H goal
all_shared G H m goal here = (are_set_operations.inclusion (label H goal.from goal.to) goal.rights).1
    (λ r h. holds_right H goal.from (alone r) goal.to (here r (includes_alone goal.rights r h)) r (alone_has r))

-- one right was found here
pub one_found : (G W : Protection) (m : Marks) (α β : Letters) (goal : Goal) (f : Found) → IsFetched G W m α goal f → f ≡ found.Here → α ≡ β → includes goal.rights β ≡ true → Holds W goal.from β goal.to
one_found G W m α β goal f h is same =
    subst (λ (l : Letters). includes goal.rights l ≡ true → Holds W goal.from l goal.to) same (subst (λ (q : Found). IsFetched G W m α goal q) is h)

-- and if all were found at once, each is there
pub all_found : (G W : Protection) (m : Marks) (goal : Goal) (f : Found) → IsFetched G W m goal.rights goal f → f ≡ found.Here → AreFetched G W m goal found.Here
all_found G W m goal f h is r e =
    let whole : includes goal.rights goal.rights ≡ true = (are_set_operations.inclusion goal.rights goal.rights).1 (λ s k. k) in
    let held : Holds W goal.from goal.rights goal.to = subst (λ (q : Found). IsFetched G W m goal.rights goal q) is h whole in
    holds_all W goal.from (alone r) goal.to (λ s k. holds_right W goal.from goal.rights goal.to held s ((are_set_operations.inclusion goal.rights (alone r)).0 e s k))
