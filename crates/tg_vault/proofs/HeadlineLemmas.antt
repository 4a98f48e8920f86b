-- the headline of a course
use Rattle.std.proofs.Common.{◌≡◌, List, [], ◌∷◌, ◌++◌, refl, subst, ◌⊎◌, inl, inr}
use Rattle.tg_rights.specs.declared.command.Rule.{Rule}
use Rattle.tg_rights.specs.declared.outcome.Cause.{Cause}
use Rattle.tg_rights.specs.declared.outcome.Which.{Which}
use Rattle.tg_rights.specs.declared.outcome.Outcome.{Outcome}
use Rattle.tg_rights.specs.declared.outcome.Outcome.TheVariants as outcome
use Rattle.tg_graph.specs.Promise.Protection.{Protection}
use Rattle.tg_graph.specs.Promise.Fullness.{Limits, MayBeFull, Permitted}
use Rattle.tg_graph.specs.Promise.Rules.{Allowed, Denied, next_graph}
use Rattle.tg_vault.specs.declared.entry.Entry.{Entry}
use Rattle.tg_vault.specs.Promise.History.{EntryRun}
use Rattle.tg_vault.specs.Promise.Headline.{EachEntry, EventCourse, IsCarriedOutWhenAllowed, IsDenialNamed}
use Rattle.tg_vault.specs.Promise.Laws.{CoursesHaveTheHeadline}
use Rattle.tg_vault.specs.Promise.Contents.{graph_now, Fits}
use Rattle.tg_collect.specs.Promise.Runs as runs
use Rattle.tg_vault.proofs.CourseLemmas.{course_events, course_run, events_fit}
use Rattle.tg_vault.proofs.CycleLemmas.{course_complete, course_bounded}
use Rattle.tg_vault.proofs.FitsLemmas.{fits_are}
use Rattle.tg_vault.proofs.DecidedLemmas.{not_both, judged_once}

each : (P : Protection → Entry → Type 0) (limits : Limits) → ((G : Protection) (e : Entry) → Permitted limits G e.actor e.command e.outcome → P G e) →
    (earlier : List Entry) (G : Protection) (es : List Entry) (H : Protection) → EntryRun limits earlier G es H → EachEntry P G es
each P limits holds earlier G [] H along = tt
each P limits holds earlier G (e ∷ es) H along = (
  holds G e along.1.1,
  each P limits holds (earlier ++ e ∷ []) (next_graph G e.actor e.command e.outcome) es H (subst (λ K. EntryRun limits (earlier ++ e ∷ []) K es H) along.1.2 along.2),
)

carried_out : (limits : Limits) (G : Protection) (e : Entry) → Permitted limits G e.actor e.command e.outcome → IsCarriedOutWhenAllowed limits G e
carried_out limits G e p = record { only = only e.outcome p; unless_full = unless_full e.outcome p; full = full e.outcome p } where
  P : Outcome → Type 0
  P = Permitted limits G e.actor e.command

  only : (o : Outcome) → P o → o ≡ outcome.Allowed → Allowed G e.actor e.command
  only outcome.Allowed p is = p.0
  only _ p is = absurd (cc is)

  unless_full : (o : Outcome) → P o → Allowed G e.actor e.command → (o ≡ outcome.Allowed) ⊎ ((w : Which) × (o ≡ outcome.Full w))
  unless_full outcome.Allowed p a = inl refl
  unless_full (outcome.Denied rule cause) p a = absurd (cc (not_both G e.actor e.command (outcome.Denied rule cause) a p))
  unless_full (outcome.Full w) p a = inr (w, refl)

  full : (o : Outcome) → P o → (w : Which) → o ≡ outcome.Full w → Allowed G e.actor e.command × MayBeFull limits G e.actor e.command w
  full (outcome.Full v) p w is = let same : v ≡ w = cc is in subst (λ u. Allowed G e.actor e.command × MayBeFull limits G e.actor e.command u) same (p.0, p.1)
  full _ p w is = absurd (cc is)

denied : (limits : Limits) (G : Protection) (e : Entry) → Permitted limits G e.actor e.command e.outcome → IsDenialNamed G e
denied limits G e p rule cause = (named e.outcome p, denies e.outcome p) where
  P : Outcome → Type 0
  P = Permitted limits G e.actor e.command

  named : (o : Outcome) → P o → o ≡ outcome.Denied rule cause → Denied G e.actor e.command rule cause
  named (outcome.Denied r why) p is = let same_rule : r ≡ rule = cc is in let same_cause : why ≡ cause = cc is in subst (λ (q : Rule × Cause). Denied G e.actor e.command q.0 q.1) (λ i. (same_rule i, same_cause i)) p
  named _ p is = absurd (cc is)

  denies : (o : Outcome) → P o → Denied G e.actor e.command rule cause → o ≡ outcome.Denied rule cause
  denies (outcome.Denied r why) p d = judged_once G e.actor e.command (outcome.Denied rule cause) (outcome.Denied r why) d p
  denies _ p d = absurd (cc (not_both G e.actor e.command (outcome.Denied rule cause) p.0 d))

each_carried_out : (limits : Limits) (G : Protection) (es : List Entry) (H : Protection) → EntryRun limits [] G es H → EachEntry (IsCarriedOutWhenAllowed limits) G es
each_carried_out limits = each (IsCarriedOutWhenAllowed limits) limits (carried_out limits) []

each_denied : (limits : Limits) (G : Protection) (es : List Entry) (H : Protection) → EntryRun limits [] G es H → EachEntry IsDenialNamed G es
each_denied limits = each IsDenialNamed limits (denied limits) []

pub courses_have_the_headline : runs.StoresAreComplete → runs.StoresAreBounded → CoursesHaveTheHeadline
courses_have_the_headline complete bounded old es answers new coherent course =
    let events : EventCourse old es answers new = course_events old es answers new course in
    let fits : Fits new = events_fit old es answers new (fits_are old coherent.ties coherent.store) events in (
      record {
        run = course_run old es answers new course;
        carried_out = each_carried_out new.limits new.opening new.history (graph_now new) fits.legal.graphs;
        denied = each_denied new.limits new.opening new.history (graph_now new) fits.legal.graphs;
        course = events;
        kept = fits;
        complete = course_complete complete old es answers new coherent course;
      },
      course_bounded bounded old es answers new coherent course,
    )
