-- What the rules say to who has retired; and to anybody else, by what is held.
use Rattle.std.proofs.Common.{◌≡◌, ℕ, List, Bool, true, false, not, ◌||◌, ◌∷◌, refl, sym, ap, subst, ◌∙◌, Some}
use Rattle.std.specs.Ordering.{nat_cmp}
use Rattle.std.specs.FinSet as set
use Rattle.std.proofs.lemmas.Bool.{or_right}
use Rattle.tg_rights.specs.declared.command.Command.{Command}
use Rattle.tg_rights.specs.declared.command.Command.TheVariants as command
use Rattle.tg_rights.specs.declared.outcome.Cause.TheVariants as cause
use Rattle.tg_graph.specs.declared.member.Member.{Member}
use Rattle.tg_graph.specs.Promise.Protection.{Protection, has_retired, label}
use Rattle.tg_graph.specs.Promise.Rules.{Allowed, denial, first_failure, is_for_retired, later_checks, later_denial, unless}
use Rattle.tg_graph.specs.Promise.Terms.{terms}
use Rattle.tg_graph.proofs.DecidingLemmas.{only_leave}
use Rattle.tg_collect.specs.Promise.Stored.{Stored}
use Rattle.tg_collect.specs.Promise.Readings.{held}
use Rattle.tg_vault.specs.Inner.Seen.{graph_seen}

-- who has retired is denied all but a leave, which is always allowed
pub retired_denied : (G : Protection) (x : ℕ) (c : Command) → is_for_retired x c ≡ false → has_retired G x ≡ true → denial G x c ≡ Some cause.Retired
retired_denied G x c early gone = λ i. first_failure (unless (not (gone i) || early i) cause.Retired ∷ later_checks G G.names x (terms x c))

pub leave_allowed : (G : Protection) (x : ℕ) (c : Command) → c ≡ command.Leave → Allowed G x c
leave_allowed G x c is =
    subst (Allowed G x) (sym is) (ap (λ b. first_failure (unless b cause.Retired ∷ later_checks G G.names x (terms x command.Leave))) (or_right (not (has_retired G x)) true refl))

pub retired_leaves : (G : Protection) (x : ℕ) (c : Command) → has_retired G x ≡ true → Allowed G x c → c ≡ command.Leave
retired_leaves G x c gone allowed = by (is_for_retired x c) refl where
  by : (b : Bool) → is_for_retired x c ≡ b → c ≡ command.Leave
  by true late = only_leave x c late
  by false early = absurd (cc (allowed, retired_denied G x c early gone))

pub retired_alike : (G H : Protection) (x : ℕ) (c : Command) → has_retired G x ≡ true → has_retired H x ≡ true → denial G x c ≡ denial H x c
retired_alike G H x c gone there = by (is_for_retired x c) refl where
  by : (b : Bool) → is_for_retired x c ≡ b → denial G x c ≡ denial H x c
  by true late = leave_allowed G x c (only_leave x c late) ∙ sym (leave_allowed H x c (only_leave x c late))
  by false early = retired_denied G x c early gone ∙ sym (retired_denied H x c early there)

-- for anybody else the rules decide by what is held
pub denial_seen : (s : Stored) (next : ℕ) (names ms : List Member) (retired : set.FinSet nat_cmp) (x : ℕ) (c : Command) → ms ≡ names → set.contains retired x ≡ false →
    denial (graph_seen s next names retired) x c ≡ later_denial (held s 0) ms x c
unfolding label
denial_seen s next names ms retired x c same active =
    ap (λ b. first_failure (unless (not b || (terms x c).for_retired) cause.Retired ∷ later_checks (graph_seen s next names retired) names x (terms x c))) active
    ∙ ap (λ (members : List Member). later_denial (held s 0) members x c) (sym same)
