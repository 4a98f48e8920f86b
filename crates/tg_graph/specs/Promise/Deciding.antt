-- what code reads off a command, and what it finds as it decides it
use Rattle.std.specs.Prelude.{◌≡◌, ℕ, List, [], ◌∷◌, Option, Some, None, ◌⊎◌}
use Rattle.tg_graph.specs.declared.rules.Need.{Need}
use Rattle.tg_graph.specs.declared.rules.Effect.{Effect}
use Rattle.tg_graph.specs.declared.rules.Effect.TheVariants as code
use Rattle.tg_graph.specs.Promise.Terms as effect
use Rattle.tg_graph.specs.declared.rules.Spot.{Spot}
use Rattle.tg_graph.specs.declared.rules.Found.{Found}
use Rattle.tg_graph.specs.Promise.Terms.{Does}

-- the effect that the code reads off a command, with the text and the name that the command brings
abbrev pub shown_effect : Effect → List ℕ → Option (List ℕ) → Does
shown_effect (code.Joins from α to) text name = effect.Joins from α to
shown_effect (code.Makes k α) text name = effect.Makes k α name
shown_effect (code.Drops α over) text name = effect.Drops α over
shown_effect (code.Rewrites over) text name = effect.Rewrites over text
shown_effect (code.Tells over) text name = effect.Tells over
shown_effect (code.Lists at) text name = effect.Lists at
shown_effect code.Retires text name = effect.Retires
shown_effect (code.Acts agent) text name = effect.Acts agent

-- the needs lead to the vertex
abbrev pub LeadTo : List Need → ℕ → Type 0
LeadTo [] v = ⊥
LeadTo (n ∷ ns) v = (v ≡ n.to) ⊎ LeadTo ns v

module _ {P : Type 0} where
  -- something holds of each spot
  pub record Each (Is : Spot P → Type 0) (f : Found P) : Type 0 where
    pub actor : Is f.actor
    pub first : (s : Spot P) → f.first ≡ Some s → Is s
    pub then : (s : Spot P) → f.then ≡ Some s → Is s

  abbrev pub IsSpotOf : Option (Spot P) → ℕ → Type 0
  IsSpotOf None v = ⊥
  IsSpotOf (Some s) v = s.serial ≡ v

  -- the vertex was found
  abbrev pub WasFound : Found P → ℕ → Type 0
  WasFound f v = (f.actor.serial ≡ v) ⊎ IsSpotOf f.first v ⊎ IsSpotOf f.then v
