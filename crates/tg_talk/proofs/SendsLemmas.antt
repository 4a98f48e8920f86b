-- What a writer holds after texts were sent.
use Rattle.std.proofs.Common.{◌≡◌, ℕ, List, [], ◌++◌, Option, None, Some, Bool, true, false, true≢false, refl, sym, ap, ◌∙◌, subst, append_assoc, append-nil}
use Rattle.std.specs.Io.KnownBytes.{Appends, Keeps}
use Rattle.tg_talk.specs.Promise.Devices.{Sends, SendsLast}
use Rattle.tg_talk.proofs.KnownBytesLemmas.{Appends-more, Appends-keeps, Appends-none}

pub sends_none : (a : Option (List ℕ)) (failed : Bool) → Sends a a failed []
sends_none None failed = record { done = []; rest = []; split = refl; appended = tt; whole = λ _. refl }
sends_none (Some o) failed = record { done = []; rest = []; split = refl; appended = sym (append-nil o); whole = λ _. refl }

pub sends_nothing : (a : Option (List ℕ)) (failed : Bool) → SendsLast a a failed [] []
sends_nothing None failed = record { done = []; rest = []; split = refl; appended = tt; whole = λ _. refl }
sends_nothing (Some o) failed = record { done = []; rest = []; split = refl; appended = sym (append-nil o); whole = λ _. refl }

-- a text that was sent, as the last one
pub sends_last : (old new : Option (List ℕ)) (failed : Bool) (text : List ℕ) → Sends old new failed text → SendsLast old new failed [] text
sends_last old new failed text sent = record { done = sent.done; rest = sent.rest; split = sent.split; appended = sent.appended; whole = sent.whole }

-- a text that was sent after others, as the last one
pub sends_behind : (old now new : Option (List ℕ)) (failed : Bool) (before text : List ℕ) → Appends old now before → Sends now new failed text → SendsLast old new failed before text
sends_behind old now new failed before text written sent =
    record { done = sent.done; rest = sent.rest; split = sent.split; appended = Appends-more old now new before sent.done written sent.appended; whole = sent.whole }

-- if the writer did not fail, all of the text is written
pub sent_whole : (old new : Option (List ℕ)) (failed : Bool) (text : List ℕ) → failed ≡ false → Sends old new failed text → Appends old new text
sent_whole old new failed text ok sent =
    let all : text ≡ sent.done = sent.split ∙ ap (λ r. sent.done ++ r) (sent.whole ok) ∙ append-nil sent.done in
    subst (Appends old new) (sym all) sent.appended

-- the same of texts of which one is the last
pub last_whole : (old new : Option (List ℕ)) (failed : Bool) (before last : List ℕ) → failed ≡ false → SendsLast old new failed before last → Appends old new (before ++ last)
last_whole old new failed before last ok sent =
    let all : last ≡ sent.done = sent.split ∙ ap (λ r. sent.done ++ r) (sent.whole ok) ∙ append-nil sent.done in
    subst (λ (l : List ℕ). Appends old new (before ++ l)) (sym all) sent.appended

-- nothing was sent if what is there stays
pub sends_keeps : (old new : Option (List ℕ)) (failed : Bool) → Keeps old new → Sends old new failed []
sends_keeps old new failed kept = record { done = []; rest = []; split = refl; appended = Appends-keeps old old new [] (Appends-none old) kept; whole = λ _. refl }

-- bytes that were sent after others, as one text
pub sends_more : (old now new : Option (List ℕ)) (was failed : Bool) (before bytes : List ℕ) → was ≡ false → Sends old now was before → Sends now new failed bytes → Sends old new failed (before ++ bytes)
sends_more old now new was failed before bytes ok first then = record {
  done = before ++ then.done;
  rest = then.rest;
  split = ap (λ b. before ++ b) then.split ∙ sym (append_assoc before then.done then.rest);
  appended = Appends-more old now new before then.done (sent_whole old now was before ok first) then.appended;
  whole = then.whole;
}

-- bytes that were not sent any more, since the writer had failed
pub sends_no_more : (old new : Option (List ℕ)) (failed : Bool) (before bytes : List ℕ) → failed ≡ true → Sends old new failed before → Sends old new failed (before ++ bytes)
sends_no_more old new failed before bytes has sent = record {
  done = sent.done;
  rest = sent.rest ++ bytes;
  split = ap (λ b. b ++ bytes) sent.split ∙ append_assoc sent.done sent.rest bytes;
  appended = sent.appended;
  whole = λ ok. absurd (true≢false (sym has ∙ ok));
}
