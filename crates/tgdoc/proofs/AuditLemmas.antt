-- An audit: the result of each line that is taken.
use Rattle.std.proofs.Common.{◌≡◌, ℕ, suc, ◌+◌, ◌<◌, ◌≤◌, List, [], ◌∷◌, ◌++◌, length, Bool, true, false, Option, None, Some, IfSome, Result, Ok, Err, IfErr, IsErrAnd, true≢false, inl, inr, refl, sym, ap, ◌∙◌, subst, arith, append_assoc, append-nil}
use Rattle.tg_graph.specs.declared.derivation.Goal.{Goal}
use Rattle.tg_graph.specs.declared.derivation.Step.{Step}
use Rattle.tg_graph.specs.declared.derivation.Verdict.{Verdict}
use Rattle.tg_graph.specs.Promise.Protection.{Protection}
use Rattle.tg_audit.specs.Promise.Verdicts.{IsVerdict}
use Rattle.tg_wire.specs.Promise.Lines.{goal_of, step_of}
use Rattle.tg_wire.specs.Promise.Reading as reading
use Rattle.tg_wire.specs.Promise.Faults.{fault_line}
use Rattle.tg_wire.specs.declared.fault.WireFault.{WireFault}
use Rattle.tg_wire.specs.declared.fault.WireFault.TheVariants as wire
use Rattle.tg_wire.specs.declared.line.TheConstants.{LONGEST_LINE}
use Rattle.tg_talk.specs.Promise.Devices.{Sends}
use Rattle.tg_talk.specs.Promise.InputLines.{lines_of}
use Rattle.tg_talk.specs.Promise.Refusals.{too_many_line}
use Rattle.tg_talk.specs.Promise.Taking.{HasLine, TakesLine}
use Rattle.tg_talk.specs.declared.fault.TalkFault.TheVariants as talk
use Rattle.tg_talk.specs.declared.line_buffer.TheConstants.{MOST_LINES}
use Rattle.tg_talk.proofs.TakingLemmas.{weaker}
use Rattle.tg_talk.specs.Promise.Endings.{EndsOnce}
use Rattle.tg_talk.specs.Promise.Opening.{RefusesOpening}
use Rattle.tgdoc.specs.Promise.Audits.{AuditRead, BytesAudited, End, EndsAt, EndsInSteps, IsRead, Misreads, OpensGraph, SaysGoal, SaysStep, StepsRead, at_configuration, at_goal, end_errors, ended, here, in_steps, judged, later, misread, no_line, none, not_read, refused, step, stopped, too_long, too_many, unjudged, verdict_errors}
use Rattle.tgdoc.specs.Inner.Auditing.{Advances, EndsBytes, EndsEarlyBytes, EndsStepBytes, Judges, NoRefusal, RefusesBy, TakesSteps, TakesWanted, TellsVerdict, end_after}
use Rattle.tg_talk.specs.Promise.Answering.{one_if}
use Rattle.tgdoc.specs.declared.audit.Ending.{Ending}
use Rattle.tgdoc.specs.declared.audit.Ending.TheVariants as ending
use Rattle.tg_talk.specs.declared.answering.Finished.{Finished}

-- the next line of the bytes xs was taken, and says this
pub record TakesRead (Says : List ℕ → Type 0) (n : ℕ) (left : Option (List ℕ)) (xs : List ℕ) : Type 0 where
  pub line : List ℕ
  pub takes : TakesLine line xs left
  pub read : IsRead n line Says

-- ---- known bytes

-- what holds of the bytes that are left when a line was taken, brought back to the bytes before
pub then_left : (o left : Option (List ℕ)) (P Q R : List ℕ → Type 0) → IfSome o P → IfSome left Q → ((xs : List ℕ) → P xs → (rest : List ℕ) × (left ≡ Some rest) × (Q rest → R xs)) → IfSome o R
then_left None left P Q R h k f = tt
then_left (Some xs) left P Q R h k f =
    let (rest, is, go) = f xs h in
    go (subst (λ o. IfSome o Q) is k)

-- what returns Ok has not failed
pub unfailed : {T E : Type 0} (b : Bool) (x : T) (e : E) → (b ≡ true → Ok x ≡ Err e) → b ≡ false
unfailed true x e h = let same = h refl in absurd (cc)
unfailed false x e h = refl

-- an error that is passed up
pub passed : {T E : Type 0} (r : Result T E) (e : E) (P : E → Type 0) → IsErrAnd r (λ y. y ≡ e) → P e → IfErr r P
passed (Ok x) e P is h = tt
passed (Err y) e P is h = subst P (sym is) h

-- ---- the line that ends an audit

pub ends_long : (Refuses : List ℕ → List ℕ → Type 0) (wanted : Bool) (n m : ℕ) (xs l : List ℕ) → m ≡ n + 1 → n < MOST_LINES → HasLine xs l → LONGEST_LINE < length l
    → EndsBytes Refuses wanted n (record { lines = m; text = fault_line wire.TooLong; fault = Some talk.TooLong }) xs
ends_long Refuses wanted n m xs l count within has long = rw (count, has.split) (too_long within long)

pub ends_many : (Refuses : List ℕ → List ℕ → Type 0) (wanted : Bool) (n m : ℕ) (xs l : List ℕ) → m ≡ n + 1 → n ≡ MOST_LINES → HasLine xs l
    → EndsBytes Refuses wanted n (record { lines = m; text = too_many_line; fault = Some talk.TooMany }) xs
ends_many Refuses wanted n m xs l count full has = rw (count, has.split) (too_many full)

pub ends_stopped : (Refuses : List ℕ → List ℕ → Type 0) (wanted : Bool) (n m : ℕ) (xs : List ℕ) → m ≡ n → EndsBytes Refuses wanted n (record { lines = m; text = []; fault = Some talk.Reading }) xs
ends_stopped Refuses wanted n m xs count = rw count stopped

pub ends_missing : (Refuses : List ℕ → List ℕ → Type 0) (n m : ℕ) (xs text : List ℕ) → m ≡ n → xs ≡ [] → text ≡ fault_line wire.NotJson → EndsBytes Refuses true n (record { lines = m; text = text; fault = None }) xs
unfolding lines_of
ends_missing Refuses n m xs text count over same = rw (count, over, same) (no_line refl)

pub ends_refused : (Refuses : List ℕ → List ℕ → Type 0) (wanted : Bool) (n m : ℕ) (xs line text : List ℕ) (left : Option (List ℕ)) → m ≡ n + 1 → m ≤ MOST_LINES → length line ≤ LONGEST_LINE → TakesLine line xs left → Refuses line text
    → EndsBytes Refuses wanted n (record { lines = m; text = text; fault = None }) xs
ends_refused Refuses wanted n m xs line text left count most short takes refuses =
    let within : n < MOST_LINES = omega arith in
    rw (count, takes.taken) (refused within short refuses)

-- what ends an audit whatever a line says, ends it
pub ends_any : (Refuses : List ℕ → List ℕ → Type 0) (v w : Bool) (n : ℕ) (e : End) (ls : List (List ℕ)) → (v ≡ true → w ≡ true) → EndsAt NoRefusal v n ls e → EndsAt Refuses w n ls e
ends_any Refuses v w n e ls more stopped = stopped
ends_any Refuses v w n e ls more (too_many full) = too_many full
ends_any Refuses v w n e ls more (too_long within long) = too_long within long
ends_any Refuses v w n e ls more (refused within short never) = absurd never
ends_any Refuses v w n e ls more (no_line is) = no_line (more is)

-- ---- what a line says

pub misreads : {A : Type 0} (read : List ℕ → Result A WireFault) (line : List ℕ) (f : WireFault) → reading.Answers {A = A} (Err f) (read line) → Misreads read line (fault_line f)
misreads read line wire.NotJson h = misread wire.NotJson h refl
misreads read line wire.NotObject h = misread wire.NotObject h refl
misreads read line wire.NoOp h = misread wire.NoOp h refl
misreads read line wire.MissingField h = misread wire.MissingField h refl
misreads read line wire.BadField h = misread wire.BadField h refl
misreads read line wire.UnknownField h = misread wire.UnknownField h refl
misreads read line wire.TooLong h = misread wire.TooLong h refl
misreads read line wire.OutOfMemory h = not_read refl

-- ---- steps

-- after this many lines, these steps are read from the bytes xs, whatever the lines that are left say
pub record StepsSoFar (start now : ℕ) (steps : List Step) (left : Option (List ℕ)) (xs : List ℕ) : Type 0 where
  pub rest : List ℕ
  pub is : left ≡ Some rest
  pub count : now + length (lines_of rest) ≡ start + length (lines_of xs)
  pub goes_on : (more : List Step) → StepsRead now (lines_of rest) more → StepsRead start (lines_of xs) (steps ++ more)
  pub ends : (e : End) → EndsInSteps now (lines_of rest) e → EndsInSteps start (lines_of xs) e

pub steps_none : (n : ℕ) (o : Option (List ℕ)) → IfSome o (StepsSoFar n n [] o)
steps_none n None = tt
steps_none n (Some xs) = record { rest = xs; is = refl; count = refl; goes_on = λ more read. read; ends = λ e end. end }

step_counts : (n m a b c : ℕ) → m ≡ n + 1 → b ≡ suc a → n + b ≡ c → m + a ≡ c
step_counts n m a b c = omega arith

pub steps_more : (start n m : ℕ) (steps : List Step) (s : Step) (line : List ℕ) (left now : Option (List ℕ)) (xs : List ℕ) → m ≡ n + 1 → m ≤ MOST_LINES → length line ≤ LONGEST_LINE → SaysStep s line
    → (so : StepsSoFar start n steps left xs) → TakesLine line so.rest now → StepsSoFar start m (steps ++ s ∷ []) now xs
steps_more start n m steps s line left now xs count most short says so takes =
    let read : IsRead n line (SaysStep s) = record { within = omega arith; short = short; says = says } in
    record {
      rest = takes.rest;
      is = takes.unread;
      count = step_counts n m (length (lines_of takes.rest)) (length (lines_of so.rest)) (start + length (lines_of xs)) count (ap length takes.taken) so.count;
      goes_on = λ more told. rw (append_assoc steps (s ∷ []) more) (so.goes_on (s ∷ more) (rw takes.taken (step read (rw count at told))));
      ends = λ e end. so.ends e (rw takes.taken (later read (rw count at end)));
    }

pub steps_all : (start n : ℕ) (steps : List Step) (left : Option (List ℕ)) (xs : List ℕ) (m : ℕ) → m ≡ n + 0 → (so : StepsSoFar start n steps left xs) → so.rest ≡ [] → TakesSteps steps start m xs
unfolding lines_of
steps_all start n steps left xs m same so over = record {
  read = rw (append-nil steps) at (so.goes_on [] (rw over none));
  count = (let zero : m ≡ n = omega arith in zero) ∙ (let all : n + length (lines_of so.rest) ≡ n = rw over (omega arith) in sym all) ∙ so.count;
}

pub steps_end : (start n : ℕ) (steps : List Step) (left : Option (List ℕ)) (xs : List ℕ) (e : End) → (so : StepsSoFar start n steps left xs) → EndsAt (Misreads step_of) false n (lines_of so.rest) e → EndsInSteps start (lines_of xs) e
steps_end start n steps left xs e so end = so.ends e (here end)

-- ---- the result of a step of the loop

abbrev SoFars : ℕ → ℕ → List Step → Option (List ℕ) → Option (List ℕ) → Type 0
SoFars start n steps o left = IfSome o (StepsSoFar start n steps left)

pub loop_stops : (start n : ℕ) (steps : List Step) (o left : Option (List ℕ)) (e : End) → SoFars start n steps o left → IfSome left (EndsBytes NoRefusal false n e) → IfSome o (EndsStepBytes start e)
loop_stops start n steps o left e so end =
    then_left o left (StepsSoFar start n steps left) (EndsBytes NoRefusal false n e) (EndsStepBytes start e) so end
    (λ xs so. (so.rest, so.is, λ here. steps_end start n steps left xs e so (ends_any (Misreads step_of) false false n e (lines_of so.rest) (λ is. is) here)))

pub loop_is_over : (start n m : ℕ) (steps : List Step) (o left now : Option (List ℕ)) (line : List ℕ) (more : Bool) → more ≡ false → m ≡ n + one_if more → SoFars start n steps o left → IfSome left (Advances more line now)
    → IfSome o (TakesSteps steps start m)
loop_is_over start n m steps o left now line true is count so over = absurd (true≢false is)
loop_is_over start n m steps o left now line false is count so over =
    then_left o left (StepsSoFar start n steps left) (Advances false line now) (TakesSteps steps start m) so over (λ xs so. (so.rest, so.is, λ over. steps_all start n steps left xs m count so over))

pub loop_refuses : (start n m : ℕ) (steps : List Step) (o left now : Option (List ℕ)) (line text : List ℕ) (more : Bool) → more ≡ true → m ≡ n + one_if more → m ≤ MOST_LINES → length line ≤ LONGEST_LINE
    → SoFars start n steps o left → IfSome left (Advances more line now) → Misreads step_of line text → IfSome o (EndsStepBytes start (record { lines = m; text = text; fault = None }))
loop_refuses start n m steps o left now line text false some count most short so takes refuses = absurd (true≢false (sym some))
loop_refuses start n m steps o left now line text true some count most short so takes refuses =
    then_left o left (StepsSoFar start n steps left) (Advances true line now) (EndsStepBytes start (record { lines = m; text = text; fault = None })) so takes
    (λ xs so. (so.rest, so.is, λ took. steps_end start n steps left xs _ so (ends_refused (Misreads step_of) false n m so.rest line text now count most short took refuses)))

pub loop_goes_on : (start n m : ℕ) (steps : List Step) (o left now : Option (List ℕ)) (line : List ℕ) (s : Step) (more : Bool) → more ≡ true → m ≡ n + one_if more → m ≤ MOST_LINES → length line ≤ LONGEST_LINE
    → SoFars start n steps o left → IfSome left (Advances more line now) → SaysStep s line → SoFars start m (steps ++ s ∷ []) o now
loop_goes_on start n m steps o left now line s false some count most short so takes says = absurd (true≢false (sym some))
loop_goes_on start n m steps o left now line s true some count most short so takes says =
    then_left o left (StepsSoFar start n steps left) (Advances true line now) (StepsSoFar start m (steps ++ s ∷ []) now) so takes
    (λ xs so. (so.rest, so.is, λ took. steps_more start n m steps s line left now xs count most short says so took))

-- ---- a configuration and a goal

abbrev Bytes : Type 0
Bytes = Option (List ℕ)

pub ends_bytes : (Refuses : List ℕ → List ℕ → Type 0) (v w : Bool) (n : ℕ) (e : End) (o : Bytes) → (v ≡ true → w ≡ true) → IfSome o (EndsBytes NoRefusal v n e) → IfSome o (EndsBytes Refuses w n e)
ends_bytes Refuses v w n e o more h = weaker o (EndsBytes NoRefusal v n e) (EndsBytes Refuses w n e) h (λ xs end. ends_any Refuses v w n e (lines_of xs) more end)

pub wanted_is_missing : (o left : Bytes) (line text : List ℕ) (n m : ℕ) (more : Bool) → more ≡ false → m ≡ n + one_if more → text ≡ fault_line wire.NotJson → IfSome o (Advances more line left)
    → IfSome o (EndsBytes NoRefusal true n (record { lines = m; text = text; fault = None }))
wanted_is_missing o left line text n m true is count same h = absurd (true≢false is)
wanted_is_missing o left line text n m false is count same h =
    weaker o (Advances false line left) (EndsBytes NoRefusal true n (record { lines = m; text = text; fault = None })) h (λ xs over. ends_missing NoRefusal n m xs text (omega arith) over same)

pub wanted_is_taken : (n m : ℕ) (line : List ℕ) (o left : Bytes) (more : Bool) → more ≡ true → m ≡ n + one_if more → m ≤ MOST_LINES → length line ≤ LONGEST_LINE → IfSome o (Advances more line left) → TakesWanted n m line o left
wanted_is_taken n m line o left true is count most short takes = record { count = count; most = most; short = short; takes = takes }
wanted_is_taken n m line o left false never count most short takes = absurd (true≢false (sym never))

pub is_read : (Says : List ℕ → Type 0) {n m : ℕ} {line : List ℕ} {o left : Bytes} → TakesWanted n m line o left → Says line → IfSome o (TakesRead Says n left)
is_read Says {n} {m} {line} {o} {left} taken says =
    let count : m ≡ n + 1 = taken.count in
    let most : m ≤ 1000000 = taken.most in
    weaker o (Advances true line left) (TakesRead Says n left) taken.takes (λ xs takes. record { line = line; takes = takes; read = record { within = omega (arith, count, most); short = taken.short; says = says } })

-- an ending by the refusal of a line, after this many
refusal_after : (e : Ending) (n : ℕ) → (end_after e n).fault ≡ None → record { lines = n; text = (end_after e n).text; fault = None } ≡ end_after e n
refusal_after (ending.Refused f) n is = refl
refusal_after (ending.Unsound f) n is = refl
refusal_after _ n is = absurd (cc)

pub is_refused : (Refuses : List ℕ → List ℕ → Type 0) (e : Ending) {n m : ℕ} {line : List ℕ} {o left : Bytes} → TakesWanted n m line o left → RefusesBy Refuses line e → IfSome o (EndsBytes Refuses true n (end_after e m))
is_refused Refuses e {n} {m} {line} {o} {left} taken refuses =
    subst (λ end. IfSome o (EndsBytes Refuses true n end)) (refusal_after e m (refuses m).0)
    (weaker o (Advances true line left) (EndsBytes Refuses true n (record { lines = m; text = (end_after e m).text; fault = None })) taken.takes
    (λ xs takes. ends_refused Refuses true n m xs line (end_after e m).text left taken.count taken.most taken.short takes (refuses m).1))

-- ---- all lines

pub ends_first : (o : Bytes) (n : ℕ) (e : End) → n ≡ 0 → IfSome o (EndsBytes RefusesOpening true n e) → IfSome o (EndsEarlyBytes e)
ends_first o n e first h = weaker o (EndsBytes RefusesOpening true n e) (EndsEarlyBytes e) h (λ xs end. at_configuration (rw first at end))

pub ends_second : (o left : Bytes) (n m : ℕ) (G : Protection) (e : End) → n ≡ 0 → m ≡ n + 1 → IfSome o (TakesRead (OpensGraph G) n left) → IfSome left (EndsBytes (Misreads goal_of) true m e) → IfSome o (EndsEarlyBytes e)
ends_second o left n m G e first count h k =
    let one : m ≡ 1 = omega arith in
    then_left o left (TakesRead (OpensGraph G) n left) (EndsBytes (Misreads goal_of) true m e) (EndsEarlyBytes e) h k
    (λ xs t. (t.takes.rest, t.takes.unread, λ end. rw t.takes.taken (at_goal G (rw first at t.read) (rw one at end))))

-- a configuration line, a goal line, and others of which this holds
record AuditThen (P : List (List ℕ) → Type 0) (G : Protection) (goal : Goal) (xs : List ℕ) : Type 0 where
  pub first : List ℕ
  pub second : List ℕ
  pub others : List (List ℕ)
  pub are : lines_of xs ≡ first ∷ second ∷ others
  pub opens : IsRead 0 first (OpensGraph G)
  pub aims : IsRead 1 second (SaysGoal goal)
  pub holds : P others

record GoalThen (P : List (List ℕ) → Type 0) (goal : Goal) (xs : List ℕ) : Type 0 where
  pub line : List ℕ
  pub others : List (List ℕ)
  pub are : lines_of xs ≡ line ∷ others
  pub aims : IsRead 1 line (SaysGoal goal)
  pub holds : P others

abbrev OverLines : (List (List ℕ) → Type 0) → List ℕ → Type 0
OverLines P xs = P (lines_of xs)

goal_then : (P : List (List ℕ) → Type 0) (o left : Bytes) (m : ℕ) (goal : Goal) → m ≡ 1 → IfSome o (TakesRead (SaysGoal goal) m left) → IfSome left (OverLines P) → IfSome o (GoalThen P goal)
goal_then P o left m goal one h k =
    then_left o left (TakesRead (SaysGoal goal) m left) (OverLines P) (GoalThen P goal) h k
    (λ xs t. (t.takes.rest, t.takes.unread, λ p. record { line = t.line; others = lines_of t.takes.rest; are = t.takes.taken; aims = rw one at t.read; holds = p }))

audit_then : (P : List (List ℕ) → Type 0) (o left last : Bytes) (n m : ℕ) (G : Protection) (goal : Goal) → n ≡ 0 → m ≡ n + 1 → IfSome o (TakesRead (OpensGraph G) n left) → IfSome left (TakesRead (SaysGoal goal) m last)
    → IfSome last (OverLines P) → IfSome o (AuditThen P G goal)
audit_then P o left last n m G goal first count h k j =
    then_left o left (TakesRead (OpensGraph G) n left) (GoalThen P goal) (AuditThen P G goal) h (goal_then P left last m goal (omega arith) k j)
    (λ xs t. (t.takes.rest, t.takes.unread, λ g. record { first = t.line; second = g.line; others = g.others; are = t.takes.taken ∙ ap (λ ls. t.line ∷ ls) g.are; opens = rw first at t.read; aims = g.aims; holds = g.holds }))

pub ends_third : (o left last : Bytes) (n m k : ℕ) (G : Protection) (goal : Goal) (e : End) → n ≡ 0 → m ≡ n + 1 → k ≡ m + 1 → IfSome o (TakesRead (OpensGraph G) n left) → IfSome left (TakesRead (SaysGoal goal) m last)
    → IfSome last (EndsStepBytes k e) → IfSome o (EndsEarlyBytes e)
ends_third o left last n m k G goal e first one two h j i =
    let three : k ≡ 2 = omega arith in
    weaker o (AuditThen (λ ls. EndsInSteps 2 ls e) G goal) (EndsEarlyBytes e)
    (audit_then (λ ls. EndsInSteps 2 ls e) o left last n m G goal first one h j (weaker last (EndsStepBytes k e) (OverLines (λ ls. EndsInSteps 2 ls e)) i (λ xs end. rw three at end)))
    (λ xs a. rw a.are (in_steps G goal a.opens a.aims a.holds))

-- the other lines are these steps, and this many lines were taken in all
abbrev AreSteps : List Step → ℕ → List (List ℕ) → Type 0
AreSteps steps m ls = StepsRead 2 ls steps × (m ≡ 2 + length ls)

all_read : (o left last : Bytes) (n m k all : ℕ) (G : Protection) (goal : Goal) (steps : List Step) → n ≡ 0 → m ≡ n + 1 → k ≡ m + 1 → IfSome o (TakesRead (OpensGraph G) n left) → IfSome left (TakesRead (SaysGoal goal) m last)
    → IfSome last (TakesSteps steps k all) → IfSome o (AuditThen (AreSteps steps all) G goal)
all_read o left last n m k all G goal steps first one two h j i =
    let three : k ≡ 2 = omega arith in
    audit_then (AreSteps steps all) o left last n m G goal first one h j
    (weaker last (TakesSteps steps k all) (OverLines (AreSteps steps all)) i (λ xs t. (rw three at t.read, t.count ∙ ap (λ a. a + length (lines_of xs)) three)))

lines_read : (G : Protection) (goal : Goal) (steps : List Step) (all : ℕ) (xs : List ℕ) → AuditThen (AreSteps steps all) G goal xs → AuditRead (lines_of xs) G goal steps × (all ≡ length (lines_of xs))
lines_read G goal steps all xs a = (
  record { first = a.first; second = a.second; others = a.others; are = a.are; opens = a.opens; aims = a.aims; rest = a.holds.0 },
  (let size : length (lines_of xs) ≡ suc (suc (length a.others)) = ap length a.are in omega (arith, a.holds.1)),
)

pub is_unjudged : (o left last : Bytes) (n m k all : ℕ) (G : Protection) (goal : Goal) (steps : List Step) (text : List ℕ) → n ≡ 0 → m ≡ n + 1 → k ≡ m + 1 → text ≡ fault_line wire.OutOfMemory → IfSome o (TakesRead (OpensGraph G) n left)
    → IfSome left (TakesRead (SaysGoal goal) m last) → IfSome last (TakesSteps steps k all) → IfSome o (EndsEarlyBytes (record { lines = all; text = text; fault = None }))
is_unjudged o left last n m k all G goal steps text first one two same h j i =
    weaker o (AuditThen (AreSteps steps all) G goal) (EndsEarlyBytes (record { lines = all; text = text; fault = None })) (all_read o left last n m k all G goal steps first one two h j i)
    (λ xs a. (let (read, size) = lines_read G goal steps all xs a in rw (same, size) (unjudged G goal steps read)))

pub is_judged : (o left last : Bytes) (n m k all : ℕ) (G : Protection) (goal : Goal) (steps : List Step) (v : Verdict) → n ≡ 0 → m ≡ n + 1 → k ≡ m + 1 → IfSome o (TakesRead (OpensGraph G) n left)
    → IfSome left (TakesRead (SaysGoal goal) m last) → IfSome last (TakesSteps steps k all) → IsVerdict G steps goal v → IfSome o (Judges v all)
is_judged o left last n m k all G goal steps v first one two h j i is =
    weaker o (AuditThen (AreSteps steps all) G goal) (Judges v all) (all_read o left last n m k all G goal steps first one two h j i)
    (λ xs a. (let (read, size) = lines_read G goal steps all xs a in record { graph = G; goal = goal; steps = steps; read = read; is = is; count = size }))

-- ---- the answer

lines_after : (e : Ending) (n : ℕ) → (end_after e n).lines ≡ n
lines_after ending.Failed n = refl
lines_after _ n = refl

pub audited_early : (finished : Finished) (old new : Option (List ℕ)) (failed : Bool) (e : Ending) (n : ℕ) (xs : List ℕ) → finished.lines ≡ n → finished.errors ≡ end_errors (end_after e n).fault → EndsOnce (end_after e n).fault failed finished.fault
    → Sends old new failed (end_after e n).text → EndsEarlyBytes (end_after e n) xs → BytesAudited finished old new failed xs
audited_early finished old new failed e n xs lines errors fault sent ends = record {
  whole = record { lines = (end_after e n).lines; errors = end_errors (end_after e n).fault; fault = (end_after e n).fault };
  text = (end_after e n).text;
  audited = ended (end_after e n) ends;
  lines = lines ∙ sym (lines_after e n);
  errors = errors;
  fault = fault;
  sent = sent;
}

pub audited_whole : (finished : Finished) (old new : Option (List ℕ)) (failed : Bool) (v : Verdict) (n : ℕ) (text xs : List ℕ) → finished.lines ≡ n → EndsOnce None failed finished.fault → TellsVerdict v finished.errors text
    → Sends old new failed text → Judges v n xs → BytesAudited finished old new failed xs
audited_whole finished old new failed v n text xs lines fault (inl (errors, same)) sent j = record {
  whole = record { lines = length (lines_of xs); errors = verdict_errors v; fault = None };
  text = text;
  audited = rw same (judged j.graph j.goal j.steps v j.read j.is);
  lines = lines ∙ j.count;
  errors = errors;
  fault = fault;
  sent = sent;
}
audited_whole finished old new failed v n text xs lines fault (inr (errors, same)) sent j = record {
  whole = record { lines = length (lines_of xs); errors = 1; fault = None };
  text = text;
  audited = rw same (ended (record { lines = length (lines_of xs); text = fault_line wire.OutOfMemory; fault = None }) (unjudged j.graph j.goal j.steps j.read));
  lines = lines ∙ j.count;
  errors = errors;
  fault = fault;
  sent = sent;
}
