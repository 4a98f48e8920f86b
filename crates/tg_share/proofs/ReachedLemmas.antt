-- A vault to which events have led, and what lies under the lock, with one more event.
use Rattle.std.proofs.Common.{◌≡◌, ℕ, ◌+◌, [], ◌∷◌, ◌++◌, length, length-append, Result, Ok, Err, MatchResult, ap, ◌∙◌}
use Rattle.tg_rights.specs.declared.command.Command.{Command}
use Rattle.tg_rights.specs.declared.outcome.Reply.{Reply}
use Rattle.tg_vault.specs.declared.event.Event.{Event}
use Rattle.tg_vault.specs.declared.event.Event.TheVariants as event
use Rattle.tg_vault.specs.declared.event.Answer.{Answer}
use Rattle.tg_vault.specs.declared.event.Answer.TheVariants as answer
use Rattle.tg_vault.specs.Promise.World.{Moment}
use Rattle.tg_vault.specs.Promise.Contents.{Contents}
use Rattle.tg_vault.specs.Promise.Course.{VaultStep}
use Rattle.tg_vault.proofs.CourseLemmas.{course_more}
use Rattle.tg_share.specs.Promise.Reached.{IsReached}
use Rattle.tg_share.specs.Inner.UnderLock.{IsLocked}

pub reached_on : (v w : Contents) (e : Event) (a : Answer) → IsReached v → VaultStep v e a w → IsReached w
reached_on v w e a reached step = record {
  opened = reached.opened;
  events = reached.events ++ e ∷ [];
  answers = reached.answers ++ a ∷ [];
  empty = reached.empty;
  coherent = reached.coherent;
  course = course_more reached.opened reached.events reached.answers v e a w reached.course step;
}

-- the same, if the answer is that of a result
pub reached_by : {A F : Type 0} (result : Result A F) (told : A → Answer) (refused : F → Answer) (v w : Contents) (e : Event) → IsReached v → MatchResult result (λ x. VaultStep v e (told x) w) (λ f. VaultStep v e (refused f) w) → IsReached w
reached_by (Ok x) told refused v w e reached step = reached_on v w e (told x) reached step
reached_by (Err f) told refused v w e reached step = reached_on v w e (refused f) reached step

-- the book has the number of the entries again; the shares are as before
pub locked_on : {v w : Contents} {total more rest amount given : ℕ} → IsLocked v total rest amount given → IsReached w → more ≡ length w.history → IsLocked w more rest amount given
locked_on locked reached counted = record { reached = reached; counted = counted; uncounted = locked.uncounted; parts = locked.parts; one_left = locked.one_left }

-- a command that is entered is one entry more
pub entry_more : {v w : Contents} {seat number : ℕ} {command : Command} {reply : Reply} → VaultStep v (event.Ask seat command) (answer.Asked number reply) w → length w.history ≡ length v.history + 1
entry_more {v} step = ap (λ (m : Moment). length m.history) step.step.2.2.left ∙ length-append v.history (_ ∷ [])
