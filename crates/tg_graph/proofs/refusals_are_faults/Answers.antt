use Rattle.std.proofs.Common.{◌≡◌, Bool, true, false, cond, List, [], ◌∷◌, Some, refl, ap, ◌∙◌, inl, inr}
use Rattle.tg_graph.specs.declared.config.Config.{Config}
use Rattle.tg_graph.specs.declared.config.OpenFault.{OpenFault}
use Rattle.tg_graph.specs.Promise.Laws.{RefusalsAreFaults}
use Rattle.tg_graph.specs.Promise.Opening.{faults, first_at_fault, is_at_fault}
use Rattle.tg_graph.proofs.refusals_are_faults.Goals as goal

module _ (c : Config) (f : OpenFault) where
  here : (g : OpenFault) (b : Bool) (fs : List OpenFault) → is_at_fault c g ≡ b → (first_at_fault c fs ≡ Some f → is_at_fault c f ≡ true) →
      cond b (Some g) (first_at_fault c fs) ≡ Some f → is_at_fault c f ≡ true
  here g true fs is later e = (let same : f ≡ g = cc e in ap (is_at_fault c) same ∙ is)
  here g false fs is later e = later e

  at_fault : (fs : List OpenFault) → first_at_fault c fs ≡ Some f → is_at_fault c f ≡ true
  at_fault [] e = absurd (cc e)
  at_fault (g ∷ fs) e = here g (is_at_fault c g) fs refl (at_fault fs) e

are_faults : RefusalsAreFaults
are_faults c f (inl first) known = at_fault c f (faults c) first
are_faults c f (inr lacking) known = absurd (known lacking.0)

pub returns : goal.returns
returns c = are_faults
