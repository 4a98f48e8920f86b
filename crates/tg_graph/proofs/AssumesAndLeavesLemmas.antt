-- Who may act for an agent, and that a leave is always allowed.
use Rattle.std.proofs.Common.{◌≡◌, ◌≢◌, ℕ, ◌∷◌, true, false, not, ◌||◌, refl, ap, Some}
use Rattle.std.proofs.lemmas.Bool.{and_from, and_parts, eqb-false, ne_eqb, not-true}
use Rattle.tg_rights.specs.Promise.Command.{rule_of}
use Rattle.tg_rights.specs.declared.command.Command.{Command}
use Rattle.tg_rights.specs.declared.command.Command.TheVariants as command
use Rattle.tg_rights.specs.declared.command.Rule.TheVariants as rule
use Rattle.tg_rights.specs.declared.outcome.Cause.TheVariants as cause
use Rattle.tg_graph.specs.Promise.Laws.{AssumesAndLeaves, MayAssume}
use Rattle.tg_graph.specs.Promise.Protection.{Protection, has_retired}
use Rattle.tg_graph.specs.Promise.Rules.{Allowed, denial, first_failure, is_for_retired, later_checks, unless}
use Rattle.tg_graph.specs.Promise.Terms.{terms}
use Rattle.tg_graph.proofs.AllowedIsMetLemmas.{allowed, allowed_to_all, meets}
use Rattle.tg_graph.proofs.DecidingLemmas.{only_leave}
use Rattle.tg_graph.proofs.RollLemmas.{untrue}

module _ (G : Protection) (x : ℕ) where
  may_assume : (agent : ℕ) → Allowed G x (command.Assume agent) → MayAssume G x agent
  may_assume agent a =
      let m = meets G x (command.Assume agent) a in
      let both = and_parts _ _ m.met.0 in
      record {
        unretired = m.unretired refl;
        apart = eqb-false x agent (not-true _ m.apart);
        has_take = both.0;
        has_grant = both.1;
        subject = m.wants;
      }

  assume_allowed : (agent : ℕ) → MayAssume G x agent → Allowed G x (command.Assume agent)
  assume_allowed agent m =
      allowed_to_all G x (command.Assume agent) refl m.unretired refl (ap not (ne_eqb x agent m.apart)) (and_from _ _ m.has_take m.has_grant, tt) m.subject tt

  leave_allowed : Allowed G x command.Leave
  leave_allowed = allowed G x command.Leave (record {
    unretired = λ e. absurd (cc e);
    named = refl;
    apart = refl;
    met = tt;
    wants = tt;
    principal = λ e. absurd (cc e);
    name = tt;
  })

  retired_first : (c : Command) → is_for_retired x c ≡ false → has_retired G x ≡ true → denial G x c ≡ Some cause.Retired
  retired_first c early retired = λ i. first_failure (unless (not (retired i) || early i) cause.Retired ∷ later_checks G G.names x (terms x c))

  retired_denied : (c : Command) → rule_of c ≢ rule.Leave → has_retired G x ≡ true → denial G x c ≡ Some cause.Retired
  retired_denied c other retired = retired_first c (untrue (is_for_retired x c) (λ e. absurd (other (ap rule_of (only_leave x c e))))) retired

  pub assumes_and_leaves : AssumesAndLeaves G x
  assumes_and_leaves = record {
    assumed = λ agent. (may_assume agent, assume_allowed agent);
    left = leave_allowed;
    retired = retired_denied;
    same = λ agent. (refl, refl);
  }
