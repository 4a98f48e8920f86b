-- Derivations step by step, and the one verdict on them.
use Rattle.std.proofs.Common.{◌≡◌, ℕ, zero, suc, ◌+◌, List, [], ◌∷◌, take, refl, sym, subst, arith, slice_get, Some}
use Rattle.std.proofs.lemmas.Option.{none-some, same_Some}
use Rattle.tg_rights.specs.Promise.Letters.{without}
use Rattle.tg_graph.specs.declared.derivation.Goal.{Goal}
use Rattle.tg_graph.specs.declared.derivation.Step.{Step}
use Rattle.tg_graph.specs.declared.derivation.Verdict.{Verdict}
use Rattle.tg_graph.specs.declared.derivation.Verdict.TheVariants as verdict
use Rattle.tg_graph.specs.Promise.Derivations.{CanShare, CarriesOut, Derives, IsShared}
use Rattle.tg_graph.specs.Promise.Protection.{Protection, label}
use Rattle.tg_audit.specs.declared.derivations.Stop.{Stop}
use Rattle.tg_audit.specs.declared.derivations.Stop.TheVariants as stop
use Rattle.tg_audit.specs.Inner.Stops.{StopsBy, verdict_at}
use Rattle.tg_audit.specs.Promise.Verdicts.{IsMet, IsVerdict}

-- one more step is carried out
pub derives_more : (G : Protection) (steps : List Step) (n : ℕ) (s : Step) (H K : Protection) → slice_get steps n ≡ Some s → Derives G (take n steps) H → CarriesOut H s K → Derives G (take (suc n) steps) K
derives_more G [] n s H K at derived step = absurd (none-some s at)
derives_more G (t ∷ steps) zero s H K at derived step =
    let C : Protection → Step → Type 0 = λ F r. CarriesOut F r K in
    (K, subst (λ F. C F t) derived (subst (λ r. C H r) (sym (same_Some t s at)) step), refl)
derives_more G (t ∷ steps) (suc n) s H K at derived step = (derived.0, derived.1, derives_more derived.0 steps n s H K at derived.2 step)

-- a step that stops determines the verdict
pub stop_verdict : (G : Protection) (steps : List Step) (goal : Goal) (n : ℕ) (s : Step) (H : Protection) (why : Stop) → Derives G (take n steps) H → slice_get steps n ≡ Some s → StopsBy H s why → IsVerdict G steps goal (verdict_at n why)
stop_verdict G steps goal n s H stop.NoSubject derived at stops = record { reached = H; step = s; derived = derived; at = at; why = stops }
stop_verdict G steps goal n s H _ derived at stops = record { reached = H; step = s; derived = derived; at = at; why = stops }

-- the verdict on no steps, after steps that are carried out
pub end_verdict : (G : Protection) (steps : List Step) (goal : Goal) (H : Protection) (v : Verdict) → Derives G steps H → IsVerdict H [] goal v → IsVerdict G steps goal v
end_verdict G steps goal H verdict.Shared derived is = record { reached = H; derived = derived; shared = (let S : Protection → Type 0 = λ F. IsShared F goal in subst S is.derived is.shared) }
end_verdict G steps goal H (verdict.GoalMissing rights) derived is =
    let L : Protection → Type 0 = λ F. (IsShared F goal → ⊥) × (rights ≡ without goal.rights (label F goal.from goal.to)) in
    let here : L H = subst L is.derived (is.unmet, is.rights) in
    record { reached = H; derived = derived; unmet = here.0; rights = here.1 }
end_verdict G steps goal H _ derived is = absurd (none-some is.step is.at)

pub can_share : (G : Protection) (steps : List Step) (goal : Goal) (v : Verdict) → IsVerdict G steps goal v → v ≡ verdict.Shared → CanShare G goal
can_share G steps goal v is shared =
    let met : IsMet G steps goal = subst (IsVerdict G steps goal) shared is in
    record { steps = steps; reached = met.reached; derived = met.derived; shared = met.shared }

pub derives_next : (G : Protection) (steps : List Step) (n : ℕ) (s : Step) (H K : Protection) → slice_get steps n ≡ Some s → Derives G (take n steps) H → CarriesOut H s K → Derives G (take (n + 1) steps) K
derives_next G steps n s H K at derived step =
    let next : n + 1 ≡ suc n = omega arith in
    let D : ℕ → Type 0 = λ k. Derives G (take k steps) K in
    subst D (sym next) (derives_more G steps n s H K at derived step)
