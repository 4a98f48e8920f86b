-- A subject cannot tell apart two graphs that agree for it: the rules decide its commands alike.
use Rattle.std.proofs.Common.{◌≡◌, ℕ, ◌∷◌, [], ◌++◌, List, true, false, cond, not, ◌||◌, refl, sym, ap, subst, ◌∙◌, Some, None, inl, inr}
use Rattle.std.specs.Prelude.{Option}
use Rattle.std.specs.Option.{option_map}
use Rattle.tg_rights.specs.Promise.Letters.{Letters, without, includes}
use Rattle.tg_rights.specs.declared.kind.Kind.{Kind}
use Rattle.tg_rights.specs.declared.kind.Kind.TheVariants as kind
use Rattle.tg_rights.specs.declared.command.Command.{Command}
use Rattle.tg_rights.specs.declared.outcome.Cause.TheVariants as cause
use Rattle.tg_rights.specs.declared.outcome.Outcome.{Outcome}
use Rattle.tg_graph.specs.declared.rules.Need.{Need}
use Rattle.tg_graph.specs.Promise.Protection.{Protection, IsEdge, label, has_serial, is_crowded, is_taken, Agree, Leads, Reaches}
use Rattle.tg_graph.specs.declared.member.Member.{Member}
use Rattle.tg_graph.specs.Promise.Terms.{Terms, terms}
use Rattle.tg_graph.specs.Promise.Rules.{Check, Judged, checks, first_failure, later_checks, is_met, is_of_kind, lack, misfit, missing, not_of_kind, unless}
use Rattle.tg_graph.specs.Promise.Deciding.{LeadTo}
use Rattle.tg_graph.specs.Inner.Deciding.{AskSome, NeedsFollow}
use Rattle.tg_graph.proofs.SoundTerms.{IsSound, WantedNear}
use Rattle.tg_graph.proofs.ExactlyOneOutcomeLemmas.{outcome_by, verdict, Judged-verdict, verdict-Judged}
use Rattle.tg_graph.proofs.AllowedIsMetLemmas.{unless_passes}
use Rattle.tg_graph.proofs.DecidingLemmas.{sound}
use Rattle.tg_graph.proofs.VertexLemmas.{IsVertex-from_kind}
use Rattle.tg_graph.proofs.ProtectionLemmas.{includes_some, led}

pub leads_on : (G : Protection) (later : List ℕ) (x y z : ℕ) → Leads G x later y → IsEdge G y z → Leads G x (later ++ z ∷ []) z
leads_on G [] x y z e step = (subst (λ v. IsEdge G v z) (sym e) step, refl)
leads_on G (v ∷ vs) x y z p step = (p.0, leads_on G vs v y z p.1 step)

pub reaches_on : (G : Protection) (x y z : ℕ) → Reaches G x y → IsEdge G y z → Reaches G x z
reaches_on G x y z r e = (r.0 ++ z ∷ [], (r.1.0, leads_on G r.0 x y z r.1.1 e))

-- each check is alike, as far as the earlier ones pass
abbrev pub ChecksAlike : List Check → List Check → Type 0
ChecksAlike [] [] = Unit {0}
ChecksAlike (m ∷ ms) (n ∷ ns) = (m ≡ n) × (m ≡ None → ChecksAlike ms ns)
ChecksAlike [] (n ∷ ns) = ⊥
ChecksAlike (m ∷ ms) [] = ⊥

pub same_failure : (ms ns : List Check) → ChecksAlike ms ns → first_failure ms ≡ first_failure ns
same_failure [] [] alike = refl
same_failure (m ∷ ms) (n ∷ ns) alike = ap (λ k. first_failure (k ∷ ms)) alike.0 ∙ later n (λ e. same_failure ms ns (alike.1 (alike.0 ∙ e))) where
  later : (k : Check) → (k ≡ None → first_failure ms ≡ first_failure ns) → first_failure (k ∷ ms) ≡ first_failure (k ∷ ns)
  later None same = same refl
  later (Some why) same = refl
same_failure [] (n ∷ ns) alike = absurd alike
same_failure (m ∷ ms) [] alike = absurd alike

abbrev roll_checks : List Member → ℕ → Terms → List Check
roll_checks ms x t =
    unless (not t.principal || has_serial ms x) cause.NotPrincipal
    ∷ unless (not (is_taken ms t.name)) cause.NameTaken
    ∷ unless (not (is_crowded ms t.name)) cause.Crowded
    ∷ []

module _ (G H : Protection) (x : ℕ) (agree : Agree G H x) where
  pub itself : Reaches G x x
  itself = ([], (IsVertex-from_kind G x kind.Subject agree.subject, refl))

  pub read_alike : (y z : ℕ) → Reaches G x y → label G y z ≡ label H y z
  read_alike y z r = agree.labels r.0 y z r.1

  -- what a need says of a label
  judged_need : Need → Letters → Check → Check
  judged_need n l later = cond (includes l n.rights) later (Some (cause.Missing (without n.rights l) n.from n.to))

  same_need : (n : Need) (later later' : Check) → Reaches G x n.from → (is_met G n ≡ true → later ≡ later') → cond (is_met G n) later (Some (lack G n)) ≡ cond (is_met H n) later' (Some (lack H n))
  unfolding judged_need
  same_need n later later' from same =
      elim (is_met G n) as (λ b. is_met G n ≡ b → cond b later (Some (lack G n)) ≡ cond b later' (Some (lack G n))) [ true ↦ λ e. same e | false ↦ λ e. refl ] refl
      ∙ ap (λ l. judged_need n l later') (read_alike n.from n.to from)

  same_missing : (ns : List Need) → NeedsFollow x ns → AskSome ns → missing G ns ≡ missing H ns
  same_missing [] follows some = refl
  same_missing (n ∷ []) follows some = same_need n None None (subst (Reaches G x) (sym follows) itself) (λ _. refl)
  same_missing (n ∷ m ∷ []) follows some =
      let first : Reaches G x n.from = subst (Reaches G x) (sym follows.0) itself in
      same_need n (missing G (m ∷ [])) (missing H (m ∷ [])) first (λ met.
      same_need m None None
      (elim follows.1 [
        | inl at ↦ subst (Reaches G x) (sym at) itself
        | inr at ↦ subst (Reaches G x) (sym at) (reaches_on G x n.from n.to first (includes_some (label G n.from n.to) n.rights met some.0))
      ])
      (λ _. refl))
  same_missing (n ∷ m ∷ o ∷ ns) follows some = absurd follows

  same_misfit : (wants : Option (ℕ × Kind)) (ns : List Need) → WantedNear ns wants → ((v : ℕ) → LeadTo ns v → Reaches G x v) → misfit G wants ≡ misfit H wants
  same_misfit None ns near reached = refl
  same_misfit (Some w) ns near reached =
      let path = reached w.0 near in
      ap (λ v. unless (is_of_kind (option_map (λ e. e.kind) v) w.1) (not_of_kind w.0 w.1)) (agree.vertices path.0 w.0 path.1)

  -- what is asked of the list of the principals
  same_roll : (t : Terms) → ChecksAlike (roll_checks G.names x t) (roll_checks H.names x t)
  same_roll t = (
    ap (λ ms. unless (not t.principal || has_serial ms x) cause.NotPrincipal) agree.names,
    λ member. (
      ap (λ ms. unless (not (is_taken ms t.name)) cause.NameTaken) agree.names,
      λ free. (ap (λ ms. unless (not (is_crowded ms t.name)) cause.Crowded) agree.names, λ room. tt),
    ),
  )

  same_later : (t : Terms) → IsSound x t → ChecksAlike (later_checks G G.names x t) (later_checks H H.names x t)
  same_later t s = (
    refl,
    λ named. let some = s.some (unless_passes _ _ named) in (
      refl,
      λ apart. (
        same_missing t.needs s.follows some,
        λ met. (
          same_misfit t.wants t.needs s.wants (led G (Reaches G x) (reaches_on G x) x itself t.needs s.follows some met),
          λ fit.
              same_roll t,
        ),
      ),
    ),
  )

  same_checks : (t : Terms) → IsSound x t → ChecksAlike (checks G x t) (checks H x t)
  same_checks t s = (ap (λ b. unless (not b || t.for_retired) cause.Retired) agree.retired, λ unretired. same_later t s)

  pub same_verdict : (c : Command) → verdict G x c ≡ verdict H x c
  same_verdict c = ap (outcome_by c) (same_failure (checks G x (terms x c)) (checks H x (terms x c)) (same_checks (terms x c) (sound x c)))

-- what the rules decide in one graph, they decide in each that agrees with it for the actor
pub Judged-agrees : (G H : Protection) (x : ℕ) (c : Command) (o : Outcome) → Agree G H x → Judged G x c o → Judged H x c o
Judged-agrees G H x c o agree judged = subst (Judged H x c) (sym (verdict-Judged G x c o judged ∙ same_verdict G H x agree c)) (Judged-verdict H x c)
