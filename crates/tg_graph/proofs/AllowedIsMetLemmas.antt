-- What it means that no check fails, and that one is the first to fail.
use Rattle.std.proofs.Common.{◌≡◌, ℕ, ◌∷◌, [], ◌++◌, List, Bool, true, false, cond, not, ◌||◌, refl, ap, ◌∙◌, Some, None}
use Rattle.std.specs.Prelude.{IsTrue, Option}
use Rattle.std.proofs.lemmas.Bool.{not-true}
use Rattle.tg_rights.specs.declared.kind.Kind.{Kind}
use Rattle.tg_rights.specs.declared.kind.Kind.TheVariants as kind
use Rattle.tg_rights.specs.declared.command.Command.{Command}
use Rattle.tg_rights.specs.declared.outcome.Cause.{Cause}
use Rattle.tg_rights.specs.declared.outcome.Cause.TheVariants as cause
use Rattle.tg_graph.specs.declared.rules.Need.{Need}
use Rattle.tg_graph.specs.Promise.Protection.{MayBeNamed, Protection, has_retired, kind_of, has_serial}
use Rattle.tg_graph.specs.Promise.Terms.{terms}
use Rattle.tg_graph.specs.Promise.Rules.{AllPass, Allowed, Check, checks, first_failure, is_met, is_of_kind, lack, misfit, missing, names_rights, not_of_kind, unless}
use Rattle.tg_graph.specs.Promise.Laws.{AllMet, IsAsWanted, Meets}
use Rattle.tg_graph.proofs.RollLemmas.{may_be_named, member_finds, member_found, not_crowded, not_taken}

pub unless_passes : (b : Bool) (why : Cause) → unless b why ≡ None → b ≡ true
unless_passes true why e = refl
unless_passes false why e = absurd (cc e)

all_pass : (ms : List Check) → first_failure ms ≡ None → AllPass ms
all_pass [] e = tt
all_pass (None ∷ ms) e = (refl, all_pass ms e)
all_pass (Some why ∷ ms) e = absurd (cc e)

pub need_met : (G : Protection) (n : Need) (ns : List Need) → missing G (n ∷ ns) ≡ None → (is_met G n ≡ true) × (missing G ns ≡ None)
need_met G n ns e =
    elim (is_met G n) as (λ b. cond b (missing G ns) (Some (lack G n)) ≡ None → (b ≡ true) × (missing G ns ≡ None)) [ true ↦ λ e. (refl, e) | false ↦ λ e. absurd (cc e) ] e

kind_is : (k : Option Kind) (wanted : Kind) → is_of_kind k wanted ≡ true → k ≡ Some wanted
kind_is None wanted e = absurd (cc e)
kind_is (Some kind.Subject) kind.Subject e = refl
kind_is (Some kind.Subject) kind.Document e = absurd (cc e)
kind_is (Some kind.Document) kind.Subject e = absurd (cc e)
kind_is (Some kind.Document) kind.Document e = refl

is_itself : (wanted : Kind) → is_of_kind (Some wanted) wanted ≡ true
is_itself kind.Subject = refl
is_itself kind.Document = refl

all_met : (G : Protection) (ns : List Need) → missing G ns ≡ None → AllMet G ns
all_met G [] e = tt
all_met G (n ∷ ns) e = let both = need_met G n ns e in (both.0, all_met G ns both.1)

pub none_missing : (G : Protection) (ns : List Need) → AllMet G ns → missing G ns ≡ None
none_missing G [] all = refl
none_missing G (n ∷ ns) all = ap (λ b. cond b (missing G ns) (Some (lack G n))) all.0 ∙ none_missing G ns all.1

as_wanted : (G : Protection) (wants : Option (ℕ × Kind)) → misfit G wants ≡ None → IsAsWanted G wants
as_wanted G None e = tt
as_wanted G (Some w) e = kind_is (kind_of G w.0) w.1 (unless_passes (is_of_kind (kind_of G w.0) w.1) (not_of_kind w.0 w.1) e)

no_misfit : (G : Protection) (wants : Option (ℕ × Kind)) → IsAsWanted G wants → misfit G wants ≡ None
no_misfit G None h = refl
no_misfit G (Some w) h = ap (λ k. unless (is_of_kind k w.1) (not_of_kind w.0 w.1)) h ∙ ap (λ b. unless b (not_of_kind w.0 w.1)) (is_itself w.1)

not_retired : (retired late : Bool) → (not retired || late) ≡ true → late ≡ false → retired ≡ false
not_retired true late e is = absurd (cc (e, is))
not_retired false late e is = refl

may_ask : (retired late : Bool) → (late ≡ false → retired ≡ false) → (not retired || late) ≡ true
may_ask true true h = refl
may_ask true false h = absurd (cc (h refl))
may_ask false late h = refl

implied : (a b : Bool) → (not a || b) ≡ true → a ≡ true → b ≡ true
implied true b e asked = e
implied false b e asked = absurd (cc asked)

implies : (a b : Bool) → (a ≡ true → b ≡ true) → (not a || b) ≡ true
implies true b f = f refl
implies false b f = refl

pub meets : (G : Protection) (x : ℕ) (c : Command) → Allowed G x c → Meets G x (terms x c)
meets G x c a =
    let p = all_pass (checks G x (terms x c)) a in
    let t = terms x c in
    record {
      unretired = not_retired (has_retired G x) t.for_retired (unless_passes _ cause.Retired p.0);
      named = unless_passes _ cause.Empty p.1.0;
      apart = unless_passes _ cause.NotDistinct p.1.1.0;
      met = all_met G t.needs p.1.1.1.0;
      wants = as_wanted G t.wants p.1.1.1.1.0;
      principal = λ asked. member_found G.names x (implied t.principal (has_serial G.names x) (unless_passes _ cause.NotPrincipal p.1.1.1.1.1.0) asked);
      name = may_be_named G.names t.name (not-true _ (unless_passes _ cause.NameTaken p.1.1.1.1.1.1.0)) (not-true _ (unless_passes _ cause.Crowded p.1.1.1.1.1.1.1.0));
    }

pub allowed : (G : Protection) (x : ℕ) (c : Command) → Meets G x (terms x c) → Allowed G x c
allowed G x c m =
    let t = terms x c in
    λ i. first_failure (
    unless (may_ask (has_retired G x) t.for_retired m.unretired i) cause.Retired
    ∷ unless (m.named i) cause.Empty
    ∷ unless (m.apart i) cause.NotDistinct
    ∷ none_missing G t.needs m.met i
    ∷ no_misfit G t.wants m.wants i
    ∷ unless (implies t.principal (has_serial G.names x) (λ asked. member_finds G.names x (m.principal asked)) i) cause.NotPrincipal
    ∷ unless (not (not_taken G.names t.name m.name i)) cause.NameTaken
    ∷ unless (not (not_crowded G.names t.name m.name i)) cause.Crowded
    ∷ []
    )

-- a command that its rule allows to others than principals too
pub allowed_to_all : (G : Protection) (x : ℕ) (c : Command) → let t = terms x c in t.principal ≡ false → has_retired G x ≡ false → IsTrue (names_rights t.names) → IsTrue t.apart → AllMet G t.needs →
    IsAsWanted G t.wants → MayBeNamed G.names t.name → Allowed G x c
allowed_to_all G x c to_all unretired named apart met wants name =
    allowed G x c (record { unretired = λ _. unretired; named = named; apart = apart; met = met; wants = wants; principal = λ e. absurd (cc (e, to_all)); name = name })

abbrev IsFirst : Cause → List Check → Type 0
IsFirst why ms = (before : List Check) × (later : List Check) × (ms ≡ before ++ Some why ∷ later) × AllPass before

pub first_of : (why : Cause) (ms : List Check) → first_failure ms ≡ Some why → IsFirst why ms
first_of why [] e = absurd (cc e)
first_of why (None ∷ ms) e = let h = first_of why ms e in (None ∷ h.0, h.1, ap (λ l. None ∷ l) h.2, (refl, h.3))
first_of why (Some other ∷ ms) e = ([], ms, ap (λ m. m ∷ ms) e, tt)

passed : (why : Cause) (before later : List Check) → AllPass before → first_failure (before ++ Some why ∷ later) ≡ Some why
passed why [] later all = refl
passed why (m ∷ before) later all = ap (λ k. first_failure (k ∷ (before ++ Some why ∷ later))) all.0 ∙ passed why before later all.1

pub is_first : (why : Cause) (ms before later : List Check) → ms ≡ before ++ Some why ∷ later → AllPass before → first_failure ms ≡ Some why
is_first why ms before later is all = ap first_failure is ∙ passed why before later all
