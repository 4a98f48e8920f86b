-- Shared vaults in other words.
use Rattle.std.proofs.Common.{◌≡◌, ◌≢◌, ℕ, suc, ◌+◌, List, [], ◌∷◌, ◌++◌, length, Some, true, slice_get, refl, sym, ap, subst, ◌∙◌, inl, inr, arith}
use Rattle.std.specs.List.{sum_by}
use Rattle.std.specs.Option.{option_map}
use Rattle.tg_rights.specs.declared.command.Command.{Command}
use Rattle.tg_rights.specs.declared.outcome.Reply.{Reply}
use Rattle.tg_graph.specs.Promise.Protection.{Protection}
use Rattle.tg_graph.specs.Promise.Rules.{next_graph}
use Rattle.tg_vault.specs.declared.entry.Entry.{Entry}
use Rattle.tg_vault.specs.declared.event.AskFault.{AskFault}
use Rattle.tg_vault.specs.declared.event.AskFault.TheVariants as ask_fault
use Rattle.tg_vault.specs.declared.event.Event.TheVariants as event
use Rattle.tg_vault.specs.declared.event.Answer.TheVariants as answer
use Rattle.tg_vault.specs.Promise.Contents.{Contents, moment}
use Rattle.tg_vault.specs.Promise.Headline.{asked_in, replies_from}
use Rattle.tg_vault.specs.Promise.World.{actor_at}
use Rattle.tg_vault.proofs.AddedLemmas.{runs_add}
use Rattle.tg_vault.proofs.MeaningsLemmas.{answers_mean, eight_steps}
use Rattle.tg_vault.specs.Promise.Laws.{CoursesHaveTheHeadline}
use Rattle.tg_audit.specs.declared.logs.SeatLog.{SeatLog}
use Rattle.tg_audit.specs.declared.logs.Settled.TheVariants as settled
use Rattle.tg_share.specs.declared.closing.Closed.{Closed}
use Rattle.tg_share.specs.declared.closing.Closed.TheVariants as closed
use Rattle.tg_share.specs.declared.session.Ended.{Ended}
use Rattle.tg_share.specs.Promise.Closing.{IsClosed, exchange_count}
use Rattle.tg_share.specs.Promise.Meanings.{ClosingHasMeaning, RoomsAreWithin, SharesHaveMeanings, exchanges_left}
use Rattle.tg_share.specs.Promise.Reached.{HasAnswered, HasHeadline, IsEntered}
use Rattle.tg_share.specs.Promise.Sessions.{IsRefused}
use Rattle.tg_share.proofs.AnsweredLemmas.{ended_at}
use Rattle.tg_share.proofs.ClosingLemmas.{count_in_logs}

as_long : (G : Protection) (n : ℕ) (es : List Entry) → length (replies_from G n es) ≡ length es
as_long G n [] = refl
as_long G n (e ∷ es) = ap suc (as_long (next_graph G e.actor e.command e.outcome) (n + 1) es)

entries : (v : Contents) (h : HasHeadline v) → length v.history ≡ length (asked_in h.reached.answers)
entries v h =
    let added = runs_add h.reached.opened _ _ v h.headline.run in
    let all : v.history ≡ added.added = added.history ∙ ap (λ es. es ++ added.added) h.reached.empty in
    ap length all ∙ (sym (as_long _ _ added.added) ∙ sym (ap length added.asked))

entered : (v : Contents) (seat actor : ℕ) (c : Command) (reply : Reply) → IsEntered v seat actor c reply → actor_at (moment v).world seat ≡ Some actor
entered v seat actor c reply h =
    let asked = (answers_mean v.limits (moment v) (moment h.after) seat).asked c (length v.history) reply h.step.step in
    let last : slice_get h.after.history (length v.history) ≡ Some asked.0 = ap (λ es. slice_get es (length v.history)) asked.1 ∙ ended_at v.history asked.0 in
    let named : Some asked.0.actor ≡ Some actor = sym (ap (λ o. option_map (λ (e : Entry). e.actor) o) last) ∙ h.actors in
    asked.3 ∙ named

refused : (seat : ℕ) (c : Command) (fault : AskFault) → IsRefused seat c fault → fault ≢ ask_fault.OutOfMemory → HasAnswered (event.Ask seat c) (answer.Ask fault)
refused seat c fault (inl is) other = absurd (other is)
refused seat c fault (inr answered) other = answered

pub shares_mean : SharesHaveMeanings
shares_mean v = record {
  entries = entries v;
  cycles = λ h is many. eight_steps h.reached.opened h.reached.answers h.bounded is many;
  entered = entered v;
  refused = refused;
}

pub rooms_are_within : CoursesHaveTheHeadline → RoomsAreWithin
rooms_are_within law r has =
    let h = law has.reached.opened has.reached.events has.reached.answers has.vault has.reached.coherent has.reached.course in
    let slots = h.0.kept.slots in
    let cells = h.0.kept.few_cells in
    let room = has.room in
    (omega (arith, slots, room.slots, room.free_slots), omega (arith, cells, room.cells, room.free_cells))

-- sessions without a ledger
abbrev Sessions : Type 0
Sessions = List (Ended (Unit {0}))

kept : (ended : Sessions) (c : Closed (Unit {0})) → IsClosed ended c → exchanges_left c ≡ exchange_count ended
kept ended (closed.Done (settled.Agreed v) counted) is = is.agreed tt
kept ended (closed.Done (settled.Differs v logs seat index) counted) is = ap (λ ls. sum_by (λ (l : SeatLog). length l.exchanges.items) ls) is.settled.1 ∙ count_in_logs ended
kept ended (closed.Done (settled.NoMemory v logs) counted) is = ap (λ ls. sum_by (λ (l : SeatLog). length l.exchanges.items) ls) is.settled.1 ∙ count_in_logs ended
kept ended (closed.NoRoom shared back) is = ap (λ (es : Sessions). exchange_count es) is

pub closing_means : ClosingHasMeaning
closing_means ended = record {
  kept = kept ended;
  counted = λ s c is closes. (let done : IsClosed ended (closed.Done s true) = subst (IsClosed ended) is closes in done.counted refl ∙ sym (kept ended c closes));
}
