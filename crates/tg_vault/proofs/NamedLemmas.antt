-- A denial's cause names the actor, or what the command names.
use Rattle.std.proofs.Common.{◌≡◌, ℕ, List, [], ◌∷◌, Bool, true, false, cond, Some, None, refl, subst}
use Rattle.std.specs.Prelude.{Option, ◌==◌, ⊤}
use Rattle.tg_rights.specs.Promise.Letters.{take_alone}
use Rattle.tg_rights.specs.declared.kind.Kind.{Kind}
use Rattle.tg_rights.specs.declared.kind.Kind.TheVariants as kind
use Rattle.tg_rights.specs.declared.command.Command.{Command}
use Rattle.tg_rights.specs.declared.command.Command.TheVariants as command
use Rattle.tg_rights.specs.declared.outcome.Cause.{Cause}
use Rattle.tg_rights.specs.declared.outcome.Cause.TheVariants as cause
use Rattle.tg_rights.specs.declared.outcome.Outcome.{Outcome}
use Rattle.tg_rights.specs.declared.outcome.Outcome.TheVariants as outcome
use Rattle.tg_graph.specs.declared.rules.Need.{Need}
use Rattle.tg_graph.specs.Promise.Protection.{Protection, kind_of}
use Rattle.tg_graph.specs.Promise.Terms.{Terms, need, terms}
use Rattle.tg_graph.specs.Promise.Rules.{Check, checks, denial, first_failure, is_met, is_of_kind, lack, misfit, missing, not_of_kind, unless}
use Rattle.tg_vault.specs.declared.entry.Place.TheVariants.{Actor, First, Second}
use Rattle.tg_vault.specs.Inner.CarriedOut.{Decided}
use Rattle.tg_vault.specs.Inner.Recorded.{AreNamed, IsNamed, IsOfCommand}

module _ (x : ℕ) (c : Command) where
  -- the check passes, or fails for a cause that names no other serials
  abbrev NamesNoOthers : Check → Type 0
  NamesNoOthers None = ⊤
  NamesNoOthers (Some why) = AreNamed x c why

  abbrev AllNameNoOthers : List Check → Type 0
  AllNameNoOthers [] = ⊤
  AllNameNoOthers (check ∷ later) = NamesNoOthers check × AllNameNoOthers later

  abbrev AreNeedsNamed : List Need → Type 0
  AreNeedsNamed [] = ⊤
  AreNeedsNamed (n ∷ ns) = (IsNamed x c n.from × IsNamed x c n.to) × AreNeedsNamed ns

  abbrev IsWantNamed : Option (ℕ × Kind) → Type 0
  IsWantNamed None = ⊤
  IsWantNamed (Some w) = IsNamed x c w.0

  failure_names : (checks : List Check) → AllNameNoOthers checks → NamesNoOthers (first_failure checks)
  failure_names [] all = tt
  failure_names (None ∷ later) all = failure_names later all.1
  failure_names (Some why ∷ later) all = all.0

  unless_names : (passes : Bool) (why : Cause) → AreNamed x c why → NamesNoOthers (unless passes why)
  unless_names true why named = tt
  unless_names false why named = named

  missing_names : (G : Protection) (ns : List Need) → AreNeedsNamed ns → NamesNoOthers (missing G ns)
  missing_names G [] named = tt
  missing_names G (n ∷ ns) named =
      elim (is_met G n) as (λ b. NamesNoOthers (cond b (missing G ns) (Some (lack G n)))) [ true ↦ missing_names G ns named.1 | false ↦ named.0 ]

  kind_names : (v : ℕ) (wanted : Kind) → IsNamed x c v → AreNamed x c (not_of_kind v wanted)
  kind_names v kind.Subject named = named
  kind_names v kind.Document named = named

  misfit_names : (G : Protection) (wants : Option (ℕ × Kind)) → IsWantNamed wants → NamesNoOthers (misfit G wants)
  misfit_names G None named = tt
  misfit_names G (Some w) named = unless_names (is_of_kind (kind_of G w.0) w.1) (not_of_kind w.0 w.1) (kind_names w.0 w.1 named)

  checks_name : (G : Protection) (t : Terms) → AreNeedsNamed t.needs → IsWantNamed t.wants → NamesNoOthers (first_failure (checks G x t))
  checks_name G t needs wants = failure_names (checks G x t) (
    unless_names _ cause.Retired tt,
    (
      unless_names _ cause.Empty tt,
      (
        unless_names _ cause.NotDistinct tt,
        (
          missing_names G t.needs needs,
          (
            misfit_names G t.wants wants,
            (unless_names _ cause.NotPrincipal tt, (unless_names _ cause.NameTaken tt, (unless_names _ cause.Crowded tt, tt))),
          ),
        ),
      ),
    ),
  )

needs_named : (x : ℕ) (c : Command) → AreNeedsNamed x c (terms x c).needs
needs_named x (command.Take α over from) = (((Actor, refl), (Second, refl)), (((Second, refl), (First, refl)), tt))
needs_named x (command.Grant α over to) = (((Actor, refl), (Second, refl)), (((Actor, refl), (First, refl)), tt))
needs_named x (command.Create k α) = tt
needs_named x (command.Remove α over) = (((Actor, refl), (First, refl)), tt)
needs_named x (command.Read over) = (((Actor, refl), (First, refl)), tt)
needs_named x (command.Write over text) = (((Actor, refl), (First, refl)), tt)
needs_named x (command.Look at) =
    elim (at == x) as (λ b. AreNeedsNamed x (command.Look at) (cond b [] (need x take_alone at ∷ []))) [ true ↦ tt | false ↦ (((Actor, refl), (First, refl)), tt) ]
needs_named x (command.Enrol name α) = tt
needs_named x command.Retire = tt
needs_named x (command.Assume agent) = (((Actor, refl), (First, refl)), tt)
needs_named x command.Leave = tt

want_named : (x : ℕ) (c : Command) → IsWantNamed x c (terms x c).wants
want_named x (command.Take α over from) = tt
want_named x (command.Grant α over to) = tt
want_named x (command.Create k α) = tt
want_named x (command.Remove α over) = tt
want_named x (command.Read over) = (First, refl)
want_named x (command.Write over text) = (First, refl)
want_named x (command.Look at) = tt
want_named x (command.Enrol name α) = tt
want_named x command.Retire = tt
want_named x (command.Assume agent) = (First, refl)
want_named x command.Leave = tt

denial_names : (G : Protection) (x : ℕ) (c : Command) (why : Cause) → denial G x c ≡ Some why → AreNamed x c why
denial_names G x c why denied = subst (NamesNoOthers x c) denied (checks_name x c G (terms x c) (needs_named x c) (want_named x c))

pub decided_names : (G : Protection) (free_slots free_cells x : ℕ) (c : Command) (o : Outcome) → Decided G free_slots free_cells x c o → IsOfCommand x c o
decided_names G slots cells x c outcome.Allowed decided = tt
decided_names G slots cells x c (outcome.Denied rule why) decided = denial_names G x c why decided.1
decided_names G slots cells x c (outcome.Full w) decided = tt
