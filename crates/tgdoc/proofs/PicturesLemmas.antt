-- The lines after the configuration, if the vault is drawn: after each of them, or after the last one.
use Rattle.std.proofs.Common.{◌≡◌, ◌≢◌, ◌∙◌, ℕ, List, [], ◌++◌, Option, Some, Bool, true, false, true≢false, ◌⊎◌, inl, inr, refl, sym, ap, subst}
use Rattle.std.specs.Prelude.{◌↔◌}
use Rattle.tg_vault.specs.Promise.Contents.{Contents}
use Rattle.tg_vault.specs.Promise.Course.{CoursesJoin}
use Rattle.tg_talk.specs.Promise.InputLines.{lines_of}
use Rattle.tg_talk.specs.Promise.Answering.{goes_on, closes, unanswered, RestAnswered}
use Rattle.tg_talk.specs.Promise.Endings.{EndsOnce}
use Rattle.tg_talk.specs.declared.answering.Finished.{Finished}
use Rattle.tg_talk.specs.declared.fault.TalkFault.{TalkFault}
use Rattle.tg_talk.specs.declared.fault.TalkFault.TheVariants as talk
use Rattle.tg_talk.proofs.AnsweringLemmas.{Follows, followed}
use Rattle.tg_talk.proofs.SendsLemmas.{last_whole, sends_behind}
use Rattle.tgdoc.specs.Promise.Runs.{AnsweredEvents, VaultRan}
use Rattle.tgdoc.specs.Inner.Running.{InputLeft}
use Rattle.tgdoc.specs.Inner.Drawing.{ArtistSays, EndsWith, rests, writes}
use Rattle.tgdoc.specs.Promise.Drawings.{DrawSays, EachOrLast, Ending, LinesDrawn, RunSoFar, Shown, WrittenAtEnd, at_end, cut_off, is_broken}
use Rattle.tgdoc.specs.declared.pictures.Artist.{Artist}
use Rattle.tgdoc.proofs.RestLemmas.{runs_more}

-- what the vault carried out since the start leads to where the run is, which is the vault of whoever answers now
record Led (start : Contents) (each : Bool) (now : Artist) (reached : RunSoFar) : Type 0 where
  pub run : VaultRan start reached.steps reached.vault
  pub vault : reached.vault ≡ now.vault
  pub same : now.each ≡ each

follows : CoursesJoin → (start : Contents) (each : Bool) → Follows {T = RunSoFar} ArtistSays (DrawSays each) (Led start each)
follows join start each s t reached line (goes_on text errors) led says =
    let steps : AnsweredEvents = says.answers.steps in
    let ran : VaultRan reached.vault steps t.vault = subst (λ (v : Contents). VaultRan v steps t.vault) (sym led.vault) says.answers.run in (
      record { steps = reached.steps ++ steps; vault = t.vault },
      record { run = runs_more join start reached.vault t.vault reached.steps steps led.run ran; vault = refl; same = says.same ∙ led.same },
      record {
        answer = says.answer;
        count = says.count;
        carried = record { steps = steps; are = refl; run = ran; answers = says.answers.answers };
        shown = subst (λ (b : Bool). Shown b t.vault line says.answer says.count text errors) led.same says.shown;
      },
    )
follows join start each s t reached line (closes text errors) led says = absurd says
follows join start each s t reached line unanswered led says = absurd says

-- the lines, and where they lead
record LinesLed (artist now : Artist) (finished : Finished) (xs before last : List ℕ) : Type 0 where
  pub steps : AnsweredEvents
  pub after : Contents
  pub run : VaultRan artist.vault steps after
  pub vault : after ≡ now.vault
  pub told : LinesDrawn artist.each artist.vault steps after (lines_of xs) finished before last

lines_led : CoursesJoin → (artist now : Artist) (n : ℕ) (finished : Finished) (old new : Option (List ℕ)) (failed : Bool) (xs : List ℕ) → n ≡ 1
    → (rest : RestAnswered ArtistSays artist n now finished old new failed xs) → LinesLed artist now finished xs rest.before rest.last
lines_led join artist now n finished old new failed xs one rest =
    let begun : RunSoFar = record { steps = []; vault = artist.vault } in
    let (reached, led, told) = followed {T = RunSoFar} ArtistSays (DrawSays artist.each) (Led artist.vault artist.each) (follows join artist.vault artist.each) artist now begun 1 0 (lines_of xs)
    finished.fault finished.lines finished.errors rest.before rest.last (record { run = refl; vault = refl; same = refl }) (rw one at rest.told) in
    record { steps = reached.steps; after = reached.vault; run = led.run; vault = led.vault; told = told }

module _ (stops : Option TalkFault → Bool) (Writes : Ending) where
  module _ (start : Contents) (steps : AnsweredEvents) (after : Contents) (ls : List (List ℕ)) where
    told_rests : (each : Bool) (finished : Finished) (before last : List ℕ) → LinesDrawn each start steps after ls finished before last → (each ≡ true) ⊎ (stops finished.fault ≡ true)
        → EachOrLast stops Writes each start steps after ls finished before last
    told_rests true finished before last told why = told
    told_rests false finished before last told (inl never) = absurd (true≢false (sym never))
    told_rests false finished before last told (inr stopped) = cut_off told stopped

    told_last : (each : Bool) (ended finished : Finished) (failed : Bool) (first refusal text : List ℕ) → each ≡ false → LinesDrawn each start steps after ls ended first refusal → stops ended.fault ≡ false
        → WrittenAtEnd (Writes after ended) ended finished failed text → EachOrLast stops Writes each start steps after ls finished (first ++ refusal) text
    told_last true ended finished failed first refusal text never told fine written = absurd (true≢false never)
    told_last false ended finished failed first refusal text only told fine written = at_end ended failed first refusal told fine written refl

  pub last_left : CoursesJoin → (artist now : Artist) (n : ℕ) (ended finished : Finished) (old between new : Option (List ℕ)) (was failed : Bool) (xs : List ℕ) → n ≡ 1 → now.each ≡ artist.each
      → EndsWith now.each stops (Writes now.vault) ended finished between was new failed → RestAnswered ArtistSays artist n now ended old between was xs
      → InputLeft (EachOrLast stops Writes artist.each) artist.vault finished old new failed xs
  last_left join artist now n ended finished old between new was failed xs one same (rests why is kept still) rest =
      let led = lines_led join artist now n ended old between was xs one rest in
      let each : (artist.each ≡ true) ⊎ (stops ended.fault ≡ true) = subst (λ (b : Bool). (b ≡ true) ⊎ (stops ended.fault ≡ true)) same why in
      rw (is, kept, still) (record {
        steps = led.steps;
        after = led.after;
        run = led.run;
        before = rest.before;
        last = rest.last;
        told = told_rests artist.vault led.steps led.after (lines_of xs) artist.each ended rest.before rest.last led.told each;
        sent = rest.sent;
      })
  last_left join artist now n ended finished old between new was failed xs one same (writes only fine whole last) rest =
      let led = lines_led join artist now n ended old between was xs one rest in
      let written : WrittenAtEnd (Writes led.after ended) ended finished failed last.text = subst (λ (w : Contents). WrittenAtEnd (Writes w ended) ended finished failed last.text) (sym led.vault) last.written in
      record {
        steps = led.steps;
        after = led.after;
        run = led.run;
        before = rest.before ++ rest.last;
        last = last.text;
        told = told_last artist.vault led.steps led.after (lines_of xs) artist.each ended finished failed rest.before rest.last last.text (sym same ∙ only) led.told fine written;
        sent = sends_behind old between new failed (rest.before ++ rest.last) last.text (last_whole old between was rest.before rest.last whole rest.sent) last.sent;
      }

  -- the same of one who never writes anything for a line
  pub answer_left : CoursesJoin → (artist now : Artist) (n : ℕ) (ended finished : Finished) (old between new : Option (List ℕ)) (was failed : Bool) (xs : List ℕ) → n ≡ 1 → now.each ≡ artist.each → artist.each ≡ false
      → EndsWith false stops (Writes now.vault) ended finished between was new failed → RestAnswered ArtistSays artist n now ended old between was xs
      → InputLeft (EachOrLast stops Writes false) artist.vault finished old new failed xs
  answer_left join artist now n ended finished old between new was failed xs one same quiet ends rest =
      let end = subst (λ (b : Bool). EndsWith b stops (Writes now.vault) ended finished between was new failed) (sym (same ∙ quiet)) ends in
      subst (λ (b : Bool). InputLeft (EachOrLast stops Writes b) artist.vault finished old new failed xs) quiet
      (last_left join artist now n ended finished old between new was failed xs one same end rest)

-- the fault of an ending that draws the last vault is the one before, or that the writer failed
pub fine_other : (f : Option TalkFault) → is_broken f ≡ false → f ≢ Some talk.Writing
fine_other f fine is = true≢false (sym (ap is_broken is) ∙ fine)

pub fine_reading : (f told : Option TalkFault) (failed : Bool) → is_broken f ≡ false → EndsOnce f failed told → (told ≡ Some talk.Reading) ↔ (f ≡ Some talk.Reading)
fine_reading f told true fine ends = (λ is. absurd (cc (sym ends ∙ is)), λ is. absurd (true≢false (sym (ap is_broken is) ∙ fine)))
fine_reading f told false fine ends = (λ is. sym ends ∙ is, λ is. ends ∙ is)

pub fine_memory : (f told : Option TalkFault) (failed : Bool) → EndsOnce f failed told → told ≡ Some talk.OutOfMemory → f ≡ Some talk.OutOfMemory
fine_memory f told true ends is = absurd (cc (sym ends ∙ is))
fine_memory f told false ends is = sym ends ∙ is

-- a writer that has not failed, by the fault
pub unfailed : (failed : Bool) (f : Option TalkFault) → (failed ≡ true) ↔ (f ≡ Some talk.Writing) → is_broken f ≡ false → failed ≡ false
unfailed true f iff fine = absurd (fine_other f fine (iff.0 refl))
unfailed false f iff fine = refl
