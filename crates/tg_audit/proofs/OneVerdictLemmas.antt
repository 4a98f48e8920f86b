-- Steps have exactly one verdict.
use Rattle.std.proofs.Common.{◌≡◌, ℕ, zero, suc, ◌<◌, ◌≤◌, List, [], ◌∷◌, length, take, refl, sym, ap, ◌∙◌, subst, arith, Bool, true, false, cond, slice_get, Option, Some, None}
use Rattle.std.proofs.lemmas.List.{take_all}
use Rattle.std.proofs.lemmas.Option.{none-some, same_Some, slice_get_within, slice_get_cases}
use Rattle.std.proofs.lemmas.Bool.{cases_lt, false_from_ne_true, false≢true}
use Rattle.std.proofs.Math.Nat.{eq-or-lt_of_le}
use Rattle.std.proofs.Math.Logic.{◌⊎◌, inl, inr}
use Rattle.tg_rights.specs.Promise.Command.{rule_of}
use Rattle.tg_rights.specs.Promise.Letters.{includes, without}
use Rattle.tg_rights.specs.declared.kind.Kind.{Kind}
use Rattle.tg_rights.specs.declared.kind.Kind.TheVariants as kind
use Rattle.tg_rights.specs.declared.outcome.Cause.{Cause}
use Rattle.tg_graph.specs.declared.derivation.Goal.{Goal}
use Rattle.tg_graph.specs.declared.derivation.Step.{Step}
use Rattle.tg_graph.specs.declared.derivation.Verdict.{Verdict}
use Rattle.tg_graph.specs.declared.derivation.Verdict.TheVariants as verdict
use Rattle.tg_graph.specs.Promise.Derivations.{CarriesOut, Derives}
use Rattle.tg_graph.specs.Promise.Protection.{Protection, IsSubject, kind_of, label}
use Rattle.tg_graph.specs.Promise.Rules.{after, denial, is_create, last_serial}
use Rattle.tg_audit.specs.declared.derivations.Stop.{Stop}
use Rattle.tg_audit.specs.declared.derivations.Stop.TheVariants as stop
use Rattle.tg_audit.specs.Inner.Stops.{StopsBy, verdict_at}
use Rattle.tg_audit.specs.Promise.Verdicts.{IsVerdict, StopsAt}
use Rattle.tg_audit.proofs.VerdictLemmas.{derives_more, end_verdict, stop_verdict}

-- the result of a step: it is carried out, or stops the derivation
abbrev Fate : Protection → Step → Type 0
Fate G s = CarriesOut G s (after G s.actor s.command) ⊎ ((why : Stop) × StopsBy G s why)

subject_or : (k : Option Kind) → (k ≡ Some kind.Subject) ⊎ (k ≡ Some kind.Subject → ⊥)
subject_or None = inr (λ e. none-some kind.Subject e)
subject_or (Some kind.Subject) = inl refl
subject_or (Some kind.Document) = inr (λ e. (let same : kind.Document ≡ kind.Subject = same_Some kind.Document kind.Subject e in cc))

fate_by_room : (G : Protection) (s : Step) → IsSubject G s.actor → denial G s.actor s.command ≡ None → (b : Bool) → is_create s.actor s.command ≡ b → Fate G s
fate_by_room G s subject allowed false creates = inl (record { subject = subject; allowed = allowed; room = λ is. absurd (false≢true (sym creates ∙ is)); result = refl })
fate_by_room G s subject allowed true creates = elim (cases_lt last_serial G.next) as (λ _. Fate G s) [
  | inl none_left ↦ inr (stop.NoSerial, record { subject = subject; allowed = allowed; creates = creates; none_left = none_left })
  | inr room ↦ inl (record { subject = subject; allowed = allowed; room = λ _. room; result = refl })
]

fate_by_rules : (G : Protection) (s : Step) → IsSubject G s.actor → (d : Option Cause) → denial G s.actor s.command ≡ d → Fate G s
fate_by_rules G s subject None allowed = fate_by_room G s subject allowed (is_create s.actor s.command) refl
fate_by_rules G s subject (Some why) denied = inr (stop.Denied (rule_of s.command) why, record { subject = subject; denied = (refl, denied) })

fate : (G : Protection) (s : Step) → Fate G s
fate G s = elim (subject_or (kind_of G s.actor)) as (λ _. Fate G s) [
  | inl subject ↦ fate_by_rules G s subject (denial G s.actor s.command) refl
  | inr none ↦ inr (stop.NoSubject, none)
]

-- a step that is carried out does not stop
carries_stops : (G : Protection) (s : Step) (H : Protection) (why : Stop) → CarriesOut G s H → StopsBy G s why → ⊥
carries_stops G s H stop.NoSubject carried stops = stops carried.subject
carries_stops G s H (stop.Denied rule cause) carried stops = none-some cause (sym carried.allowed ∙ stops.denied.1)
carries_stops G s H stop.NoSerial carried stops = let room = carried.room stops.creates in let none = stops.none_left in omega arith

-- and stops for one reason
stops_same : (G : Protection) (s : Step) (why other : Stop) → StopsBy G s why → StopsBy G s other → why ≡ other
stops_same G s stop.NoSubject stop.NoSubject a b = refl
stops_same G s stop.NoSubject (stop.Denied rule cause) a b = absurd (a b.subject)
stops_same G s stop.NoSubject stop.NoSerial a b = absurd (a b.subject)
stops_same G s (stop.Denied rule cause) stop.NoSubject a b = absurd (b a.subject)
stops_same G s (stop.Denied rule cause) (stop.Denied other why) a b = λ i. stop.Denied ((a.denied.0 ∙ sym b.denied.0) i) (same_Some cause why (sym a.denied.1 ∙ b.denied.1) i)
stops_same G s (stop.Denied rule cause) stop.NoSerial a b = absurd (none-some cause (sym b.allowed ∙ a.denied.1))
stops_same G s stop.NoSerial stop.NoSubject a b = absurd (b a.subject)
stops_same G s stop.NoSerial (stop.Denied rule cause) a b = absurd (none-some cause (sym a.allowed ∙ b.denied.1))
stops_same G s stop.NoSerial stop.NoSerial a b = refl

-- steps lead to one graph
derives_same : (G : Protection) (steps : List Step) (H K : Protection) → Derives G steps H → Derives G steps K → H ≡ K
derives_same G [] H K a b = a ∙ sym b
derives_same G (s ∷ ss) H K a b =
    let same : b.0 ≡ a.0 = b.1.result ∙ sym a.1.result in
    let D : Protection → Type 0 = λ F. Derives F ss K in
    derives_same a.0 ss H K a.2 (subst D same b.2)

-- if some steps are carried out, none of them stops
none_stops : (G : Protection) (steps : List Step) (m n : ℕ) (K H : Protection) (s : Step) (why : Stop) → n < m → Derives G (take m steps) K → slice_get steps n ≡ Some s → Derives G (take n steps) H → StopsBy H s why → ⊥
none_stops G [] m n K H s why lt a at b stops = none-some s at
none_stops G (t ∷ ts) zero n K H s why lt a at b stops = omega arith
none_stops G (t ∷ ts) (suc m) zero K H s why lt a at b stops =
    let S : Protection → Step → Type 0 = λ F r. StopsBy F r why in
    carries_stops G t a.0 why a.1 (subst (λ F. S F t) b (subst (λ r. S H r) (sym (same_Some t s at)) stops))
none_stops G (t ∷ ts) (suc m) (suc n) K H s why lt a at b stops =
    let same : b.0 ≡ a.0 = b.1.result ∙ sym a.1.result in
    let D : Protection → Type 0 = λ F. Derives F (take n ts) H in
    none_stops a.0 ts m n K H s why (omega arith) a.2 at (subst D same b.2) stops

-- how a verdict comes about: all steps are carried out, or one stops
abbrev Ends : Protection → List Step → Goal → Verdict → Type 0
Ends G steps goal v =
    ((H : Protection) × Derives G steps H × IsVerdict H [] goal v) ⊎ ((n : ℕ) × (why : Stop) × (v ≡ verdict_at n why) × StopsAt G steps n (λ H s. StopsBy H s why))

ends : (G : Protection) (steps : List Step) (goal : Goal) (v : Verdict) → IsVerdict G steps goal v → Ends G steps goal v
ends G steps goal verdict.Shared is = inl (is.reached, is.derived, record { reached = is.reached; derived = refl; shared = is.shared })
ends G steps goal (verdict.GoalMissing rights) is = inl (is.reached, is.derived, record { reached = is.reached; derived = refl; unmet = is.unmet; rights = is.rights })
ends G steps goal (verdict.ActorNotSubject index) is = inr (index, stop.NoSubject, refl, is)
ends G steps goal (verdict.StepDenied index rule cause) is = inr (index, stop.Denied rule cause, refl, is)
ends G steps goal (verdict.StepFull index) is = inr (index, stop.NoSerial, refl, is)

-- the verdict after all steps
abbrev weighed : Protection → Goal → Bool → Verdict
weighed H goal met = cond met verdict.Shared (verdict.GoalMissing (without goal.rights (label H goal.from goal.to)))

abbrev is_met : Protection → Goal → Bool
is_met H goal = includes (label H goal.from goal.to) goal.rights

weighed_is : (H : Protection) (goal : Goal) (met : Bool) → is_met H goal ≡ met → IsVerdict H [] goal (weighed H goal met)
weighed_is H goal true is = record { reached = H; derived = refl; shared = is }
weighed_is H goal false is = record { reached = H; derived = refl; unmet = λ met. false≢true (sym is ∙ met); rights = refl }

is_weighed : (H : Protection) (goal : Goal) (v : Verdict) → IsVerdict H [] goal v → v ≡ weighed H goal (is_met H goal)
is_weighed H goal verdict.Shared is =
    let M : Protection → Type 0 = λ F. is_met F goal ≡ true in
    sym (ap (weighed H goal) (subst M is.derived is.shared))
is_weighed H goal (verdict.GoalMissing rights) is =
    let M : Protection → Type 0 = λ F. (is_met F goal ≡ true → ⊥) × (rights ≡ without goal.rights (label F goal.from goal.to)) in
    let here : M H = subst M is.derived (is.unmet, is.rights) in
    ap verdict.GoalMissing here.1 ∙ sym (ap (weighed H goal) (false_from_ne_true (is_met H goal) here.0))
is_weighed H goal _ is = absurd (none-some is.step is.at)

-- a derivation of all steps has no step that stops
whole_stops : (G : Protection) (steps : List Step) (H : Protection) (n : ℕ) (why : Stop) → Derives G steps H → StopsAt G steps n (λ K s. StopsBy K s why) → ⊥
whole_stops G steps H n why derived stops =
    let D : List Step → Type 0 = λ ss. Derives G ss H in
    none_stops G steps (length steps) n H stops.reached stops.step why (slice_get_within steps n stops.step stops.at)
    (subst D (sym (take_all (length steps) steps (omega arith))) derived) stops.at stops.derived stops.why

-- two steps that stop are the same, for the same reason
stops_once : (G : Protection) (steps : List Step) (n m : ℕ) (why other : Stop) → n ≤ m → StopsAt G steps n (λ K s. StopsBy K s why) → StopsAt G steps m (λ K s. StopsBy K s other) → verdict_at n why ≡ verdict_at m other
stops_once G steps n m why other le a b = elim (eq-or-lt_of_le le) as (λ _. verdict_at n why ≡ verdict_at m other) [
  | inl same ↦
      let At : ℕ → Type 0 = λ k. StopsAt G steps k (λ K s. StopsBy K s other) in
      let c : At n = subst At (sym same) b in
      let step : c.step ≡ a.step = same_Some c.step a.step (sym c.at ∙ a.at) in
      let graph : c.reached ≡ a.reached = derives_same G (take n steps) c.reached a.reached c.derived a.derived in
      let S : Protection → Step → Type 0 = λ F r. StopsBy F r other in
      let stops : StopsBy a.reached a.step other = subst (λ F. S F a.step) graph (subst (λ r. S c.reached r) step c.why) in
      λ i. verdict_at (same i) (stops_same a.reached a.step why other a.why stops i)
  | inr lt ↦ absurd (none_stops G steps m n b.reached a.reached a.step why lt b.derived a.at a.derived a.why)
]

le_or : (n m : ℕ) → (n ≤ m) ⊎ (m ≤ n)
le_or n m = elim (cases_lt n m) as (λ _. (n ≤ m) ⊎ (m ≤ n)) [ inl lt ↦ inl (omega arith) | inr le ↦ inr le ]

ends_once : (G : Protection) (steps : List Step) (goal : Goal) (v w : Verdict) → Ends G steps goal v → Ends G steps goal w → v ≡ w
ends_once G steps goal v w (inl a) (inl b) =
    let same : b.0 ≡ a.0 = derives_same G steps b.0 a.0 b.1 a.1 in
    let V : Protection → Type 0 = λ F. IsVerdict F [] goal w in
    is_weighed a.0 goal v a.2 ∙ sym (is_weighed a.0 goal w (subst V same b.2))
ends_once G steps goal v w (inl a) (inr b) = absurd (whole_stops G steps a.0 b.0 b.1 a.1 b.3)
ends_once G steps goal v w (inr a) (inl b) = absurd (whole_stops G steps b.0 a.0 a.1 b.1 a.3)
ends_once G steps goal v w (inr a) (inr b) = a.2 ∙ (elim (le_or a.0 b.0) as (λ _. verdict_at a.0 a.1 ≡ verdict_at b.0 b.1) [
  | inl le ↦ stops_once G steps a.0 b.0 a.1 b.1 le a.3 b.3
  | inr le ↦ sym (stops_once G steps b.0 a.0 b.1 a.1 le b.3 a.3)
] ∙ sym b.2)

pub verdict_once : (G : Protection) (steps : List Step) (goal : Goal) (v w : Verdict) → IsVerdict G steps goal v → IsVerdict G steps goal w → w ≡ v
verdict_once G steps goal v w a b = ends_once G steps goal w v (ends G steps goal w b) (ends G steps goal v a)

abbrev SoFar : Protection → List Step → Goal → ℕ → Type 0
SoFar G steps goal k = ((v : Verdict) × IsVerdict G steps goal v) ⊎ ((H : Protection) × Derives G (take k steps) H)

goes_on : (G : Protection) (steps : List Step) (goal : Goal) (k : ℕ) (s : Step) (H : Protection) → slice_get steps k ≡ Some s → Derives G (take k steps) H → Fate H s → SoFar G steps goal (suc k)
goes_on G steps goal k s H at derived (inl carried) = inr (after H s.actor s.command, derives_more G steps k s H (after H s.actor s.command) at derived carried)
goes_on G steps goal k s H at derived (inr stops) = inl (verdict_at k stops.0, stop_verdict G steps goal k s H stops.0 derived at stops.1)

so_far : (G : Protection) (steps : List Step) (goal : Goal) (k : ℕ) → k ≤ length steps → SoFar G steps goal k
so_far G steps goal zero le = inr (G, refl)
so_far G steps goal (suc k) le = elim (so_far G steps goal k (omega arith)) as (λ _. SoFar G steps goal (suc k)) [
  | inl found ↦ inl found
  | inr derived ↦ elim (slice_get_cases steps k).1 as (λ _. SoFar G steps goal (suc k)) [
    | inl here ↦ goes_on G steps goal k here.0 derived.0 here.2 derived.1 (fate derived.0 here.0)
    | inr past ↦ absurd (omega (arith, past.0))
  ]
]

pub some_verdict : (G : Protection) (steps : List Step) (goal : Goal) → (v : Verdict) × IsVerdict G steps goal v
some_verdict G steps goal = elim (so_far G steps goal (length steps) (omega arith)) as (λ _. (v : Verdict) × IsVerdict G steps goal v) [
  | inl found ↦ found
  | inr derived ↦
      let H = derived.0 in
      let v = weighed H goal (is_met H goal) in
      let D : List Step → Type 0 = λ ss. Derives G ss H in
      (v, end_verdict G steps goal H v (subst D (take_all (length steps) steps (omega arith)) derived.1) (weighed_is H goal (is_met H goal) refl))
]
