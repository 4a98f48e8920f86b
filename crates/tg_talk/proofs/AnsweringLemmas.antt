-- Lines answered one after another: one turn, and the lines so far.
use Rattle.std.proofs.Common.{◌≡◌, ℕ, ◌+◌, ◌<◌, ◌≤◌, List, [], ◌∷◌, ◌++◌, length, Option, None, Some, IfSome, Bool, true, false, inl, inr, refl, subst, append_assoc, append-nil}
use Rattle.std.specs.Io.KnownBytes.{Keeps}
use Rattle.tg_wire.specs.Promise.Faults.{fault_line}
use Rattle.tg_wire.specs.declared.fault.WireFault.TheVariants as wire
use Rattle.tg_talk.specs.Promise.Devices.{Sends}
use Rattle.tg_talk.specs.Promise.InputLines.{lines_of}
use Rattle.tg_talk.specs.Promise.Refusals.{too_many_line as line_of_too_many}
use Rattle.tg_talk.specs.Promise.Endings.{EndsOnce, IsFault, EndsThere}
use Rattle.tg_talk.specs.Promise.Taking.{HasLine}
use Rattle.tg_talk.specs.Promise.Answering.{How, Saying, goes_on, LinesAnswered, ended, stopped, unpaid, cut, over, untold, too_many, too_long, answered, RestAnswered}
use Rattle.tg_talk.specs.Inner.Answering.{AnswersTaken, Closes, Continues, Point, point}
use Rattle.tg_talk.specs.declared.fault.TalkFault.{TalkFault}
use Rattle.tg_talk.specs.declared.fault.TalkFault.TheVariants as talk
use Rattle.tg_talk.specs.declared.answering.Turn.TheVariants.{GoOn, Ended as Over}
use Rattle.tg_talk.proofs.KnownBytesLemmas.{Appends-keeps, Appends-more, Appends-none}
use Rattle.tg_talk.proofs.SendsLemmas.{sends_behind, sent_whole}
use Rattle.tg_talk.proofs.TakingLemmas.{told_at}

-- ---- the answer to a line

not_cut : (failed : Bool) → EndsOnce None failed None → failed ≡ false
not_cut true h = cc
not_cut false h = refl

pub cut_fault : (failed : Bool) (f : TalkFault) → EndsOnce None failed (Some f) → Some f ≡ Some talk.Writing
cut_fault true f h = h
cut_fault false f h = cc

pub ends_fault : (f : TalkFault) (failed : Bool) (told : Option TalkFault) → EndsOnce (Some f) failed told → IsFault f told
ends_fault f true told h = inr h
ends_fault f false told h = inl h

pub ends_there : (failed : Bool) (told : Option TalkFault) → EndsOnce None failed told → EndsThere told
ends_there true told h = inr h
ends_there false told h = inl h

-- and the next line is taken
pub line_continues : {S : Type 0} → (Says : How S) (s t : S) (line text : List ℕ) (n e d k : ℕ) (unread was now : Option (List ℕ)) (failed : Bool)
    → EndsOnce None failed None → d ≡ e + k → Says s line (goes_on text k) t → Sends was now failed text → AnswersTaken Says GoOn line (point s n e unread was) (point t n d unread now) failed
line_continues Says s t line text n e d k unread was now failed ends counted says sent m come xs within short count takes = record {
  text = text;
  left = takes.rest;
  is = takes.unread;
  written = sent_whole was now failed text (not_cut failed ends) sent;
  completes = λ u f all wrong before last told. rw takes.taken (answered within short says (rw (count, counted) at told));
}

-- and no further line is taken
pub line_closes : {S : Type 0} → (Says : How S) (f : Option TalkFault) (s t : S) (line text : List ℕ) (n e d : ℕ) (unread was now : Option (List ℕ)) (failed : Bool)
    → ((m : ℕ) (ls : List (List ℕ)) → m < 1000000 → length line ≤ 16384 → n ≡ m + 1 → LinesAnswered Says s m e (line ∷ ls) t f n d [] text)
    → Sends was now failed text → AnswersTaken Says (Over f) line (point s n e unread was) (point t n d unread now) failed
line_closes Says f s t line text n e d unread was now failed told sent m come xs within short count takes =
    record { text = text; told = rw takes.taken (told m (lines_of takes.rest) within short count); sent = sent }

-- ---- no answer by who answers

pub told_long : {S : Type 0} → (Says : How S) (s : S) (n e : ℕ) (xs : List ℕ) (m d : ℕ) (f : Option TalkFault) (text line : List ℕ)
    → n < 1000000 → 16384 < length line → HasLine xs line → m ≡ n + 1 → d ≡ e + 1 → text ≡ fault_line wire.TooLong → IsFault talk.TooLong f → LinesAnswered Says s n e (lines_of xs) s f m d [] text
told_long Says s n e xs m d f text line within long has count counted same is = rw (has.split, same) (too_long within long is count counted)

pub told_too_many : {S : Type 0} → (Says : How S) (s : S) (n e : ℕ) (xs : List ℕ) (m d : ℕ) (f : Option TalkFault) (text line : List ℕ)
    → n ≡ 1000000 → HasLine xs line → m ≡ n + 1 → d ≡ e + 1 → text ≡ line_of_too_many → IsFault talk.TooMany f → LinesAnswered Says s n e (lines_of xs) s f m d [] text
told_too_many Says s n e xs m d f text line full has count counted same is = rw (has.split, same) (too_many full is count counted)

pub told_ended : {S : Type 0} → (Says : How S) (s : S) (n e : ℕ) (xs : List ℕ) (m : ℕ) → m ≡ n → xs ≡ [] → LinesAnswered Says s n e (lines_of xs) s None m e [] []
unfolding lines_of
told_ended Says s n e xs m count none = rw (none, count) ended

pub told_stopped : {S : Type 0} → (Says : How S) (s : S) (n e : ℕ) (xs : List ℕ) (m : ℕ) → m ≡ n → LinesAnswered Says s n e (lines_of xs) s (Some talk.Reading) m e [] []
told_stopped Says s n e xs m count = rw count stopped

-- ---- turn by turn

pub continues_here : {S : Type 0} → (Says : How S) (s : S) (n e : ℕ) (unread told : Option (List ℕ)) → IfSome unread (Continues Says (point s n e unread told) (point s n e unread told))
continues_here Says s n e None told = tt
continues_here Says s n e (Some xs) told = record { text = []; left = xs; is = refl; written = Appends-none told; completes = λ t f m d before last told. told }

-- a turn, before which the writer may have got what it held back
pub continues_more : {S : Type 0} → (Says : How S) (start here there : Point S) (paid : Option (List ℕ)) (xs : List ℕ) → Continues Says start here xs → Keeps here.promised paid
    → IfSome here.unread (Continues Says (record here { promised = paid }) there) → Continues Says start there xs
continues_more Says start here there paid xs so kept turn =
    let turn = told_at here.unread so.left (Continues Says (record here { promised = paid }) there) so.is turn in
    record {
      text = so.text ++ turn.text;
      left = turn.left;
      is = turn.is;
      written = Appends-more start.promised paid there.promised so.text turn.text (Appends-keeps start.promised here.promised paid so.text so.written kept) turn.written;
      completes = λ t f m d before last told. rw (append_assoc so.text turn.text before) (so.completes t f m d (turn.text ++ before) last (turn.completes t f m d before last told));
    }

pub continues_closed : {S : Type 0} → (Says : How S) (s t : S) (n m d : ℕ) (unread left old paid told : Option (List ℕ)) (here : Point S) (f : Option TalkFault) (failed : Bool) (xs : List ℕ)
    → Continues Says (point s n 0 unread old) here xs → Keeps here.promised paid → IfSome here.unread (Closes Says f (record here { promised = paid }) (point t m d left told) failed)
    → RestAnswered Says s n t (record { lines = m; errors = d; fault = f }) old told failed xs
continues_closed Says s t n m d unread left old paid told here f failed xs so kept turn =
    let turn = told_at here.unread so.left (Closes Says f (record here { promised = paid }) (point t m d left told) failed) so.is turn in
    record {
      before = so.text;
      last = turn.text;
      told = subst (λ (b : List ℕ). LinesAnswered Says s n 0 (lines_of xs) t f m d b turn.text) (append-nil so.text) (so.completes t f m d [] turn.text turn.told);
      sent = sends_behind old paid told failed so.text turn.text (Appends-keeps old here.promised paid so.text so.written kept) turn.sent;
    }

-- ---- the same lines, told of something else

-- each answer to a line of s is one of whatever stands for s, and leaves what stands for what is then
abbrev pub Follows : {S T : Type 0} → How S → How T → (S → T → Type 0) → Type 0
Follows {S = S} {T = T} Says Tells Stands = (s t : S) (u : T) (line : List ℕ) (how : Saying) → Stands s u → Says s line how t → (v : T) × Stands t v × Tells u line how v

pub followed : {S T : Type 0} → (Says : How S) (Tells : How T) (Stands : S → T → Type 0) → Follows Says Tells Stands
    → (s t : S) (u : T) (n e : ℕ) (ls : List (List ℕ)) (f : Option TalkFault) (m d : ℕ) (before last : List ℕ) → Stands s u → LinesAnswered Says s n e ls t f m d before last
    → (v : T) × Stands t v × LinesAnswered Tells u n e ls v f m d before last
followed Says Tells Stands follows s _ u n e _ _ _ _ _ _ stands ended = (u, stands, ended)
followed Says Tells Stands follows s _ u n e _ _ _ _ _ _ stands stopped = (u, stands, stopped)
followed Says Tells Stands follows s _ u n e _ _ _ _ _ _ stands unpaid = (u, stands, unpaid)
followed Says Tells Stands follows s t u n e (l ∷ ls) _ m d _ _ stands (cut within short says count counted) =
    let (v, then, told) = follows s t u l _ stands says in (v, then, cut within short told count counted)
followed Says Tells Stands follows s t u n e (l ∷ ls) _ m d _ _ stands (over within short says ends count counted) =
    let (v, then, told) = follows s t u l _ stands says in (v, then, over within short told ends count counted)
followed Says Tells Stands follows s t u n e (l ∷ ls) _ m d _ _ stands (untold within short says is count counted) =
    let (v, then, told) = follows s t u l _ stands says in (v, then, untold within short told is count counted)
followed Says Tells Stands follows s _ u n e _ _ m d _ _ stands (too_many full is count counted) = (u, stands, too_many full is count counted)
followed Says Tells Stands follows s _ u n e _ _ m d _ _ stands (too_long within long is count counted) = (u, stands, too_long within long is count counted)
followed Says Tells Stands follows s t u n e (l ∷ ls) f m d _ last stands (answered {t = next} {k = k} within short says rest) =
    let (v, then, told) = follows s next u l _ stands says in
    let (w, end, more) = followed Says Tells Stands follows next t v (n + 1) (e + k) ls f m d _ last then rest in
    (w, end, answered within short told more)
