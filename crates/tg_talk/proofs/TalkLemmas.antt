-- A talk as a whole.
use Rattle.std.proofs.Common.{◌≡◌, ◌∙◌, ℕ, List, Option, None, Some, Bool, refl, ap, sym, subst}
use Rattle.tg_share.specs.Promise.Sessions.{Sitting}
use Rattle.tg_share.specs.declared.session.Ended.{Ended}
use Rattle.tg_talk.specs.Promise.Answering.{LinesAnswered, RestAnswered}
use Rattle.tg_talk.specs.Promise.InputLines.{lines_of}
use Rattle.tg_talk.specs.Promise.Talks.{HasTalked, Seated, TalkSays, actor_left, log_left, nobody, taken}
use Rattle.tg_talk.specs.Inner.Talking.{HostSays, Leaves, actor_of, log_of, seated}
use Rattle.tg_talk.specs.declared.answering.Finished.{Finished}
use Rattle.tg_talk.proofs.AnsweringLemmas.{Follows, followed}

left : {L : Type 0} → (then : Option Sitting) (end : Option (Ended L)) → Leaves then end → (actor_left end ≡ actor_of then) × (log_left end ≡ log_of then)
left None None h = (refl, refl)
left None (Some e) h = absurd h
left (Some s) None h = absurd h
left (Some s) (Some e) (seat, actor, log) = (ap Some actor, log)

abbrev Stands : {H : Type 0} → (H → Option Sitting) → H → Seated → Type 0
Stands sits host v = v ≡ seated (sits host)

follows : {H : Type 0} → (sits : H → Option Sitting) → Follows {S = H} (HostSays sits) TalkSays (Stands sits)
follows sits s t u line how is says = (seated (sits t), refl, subst (λ x. TalkSays x line how (seated (sits t))) (sym is) says)

pub talked : {H L : Type 0} → (sits : H → Option Sitting) (host now : H) (then : Option Sitting) (end : Option (Ended L)) (n : ℕ) (finished : Finished) (old new : Option (List ℕ)) (failed : Bool) (input : List ℕ)
    → sits host ≡ None → then ≡ sits now → Leaves then end → n ≡ 0 → RestAnswered {S = H} (HostSays sits) host n now finished old new failed input → HasTalked finished.lines finished.fault end old new failed input
talked {H = H} sits host now then end n finished old new failed input alone left_there leaves none rest =
    let (v, stands, told) = followed {S = H} (HostSays sits) TalkSays (Stands sits) (follows sits) host now nobody 0 0 (lines_of input) finished.fault finished.lines finished.errors rest.before rest.last (sym (ap seated alone)) (rw none at rest.told) in
    let is : v ≡ seated then = stands ∙ sym (ap seated left_there) in
    record {
      before = rest.before;
      last = rest.last;
      text = taken {errors = finished.errors} (rw ((left then end leaves).0, (left then end leaves).1) (subst (λ x. LinesAnswered TalkSays nobody 0 0 (lines_of input) x finished.fault finished.lines finished.errors rest.before rest.last) is told));
      sent = rest.sent;
    }
