-- How lines end, in other words.
use Rattle.std.proofs.Common.{◌≡◌, ◌≤◌, ◌⊎◌, ◌||◌, ℕ, ◌+◌, true, false, List, ◌∷◌, length, take, drop, Option, Some, None, Ok, Err, inl, inr, refl, sym, ap, ◌∙◌, arith}
use Rattle.std.proofs.lemmas.Bool.{ltb-false, or_parts}
use Rattle.std.proofs.lemmas.List.Folds.{list_any-append}
use Rattle.tg_wire.specs.Promise.Configs.{opening_of}
use Rattle.tg_wire.specs.Promise.Lines.{config_of}
use Rattle.tg_wire.specs.Promise.Faults.{fault_line}
use Rattle.tg_wire.specs.declared.fault.WireFault.{WireFault}
use Rattle.tg_wire.specs.declared.fault.WireFault.TheVariants as wire
use Rattle.tg_talk.specs.declared.fault.TalkFault.{TalkFault}
use Rattle.tg_talk.specs.declared.fault.TalkFault.TheVariants as talk
use Rattle.tg_talk.specs.Promise.Answering.{How, LinesAnswered, answered, cut, ended, over, stopped, too_long, too_many, unpaid, untold}
use Rattle.tg_talk.specs.Promise.Endings.{EndsThere, IsFault}
use Rattle.tg_talk.specs.Promise.InputLines.{IsFirstNewline, has_newline, is_newline}
use Rattle.tg_talk.specs.Promise.Meanings.{EndsMean}
use Rattle.tg_talk.specs.Promise.Opening.{RefusesOpening, misread, not_read, unsound}
use Rattle.tg_talk.specs.Promise.Talks.{TalkSays}

no_line : (buffer : List ℕ) (n : ℕ) → has_newline buffer ≡ false → IsFirstNewline buffer n → ⊥
no_line buffer n none first =
    let rest : List ℕ = 10 ∷ drop (n + 1) buffer in
    let parts : (has_newline (take n buffer) || has_newline rest) ≡ false =
    sym (list_any-append is_newline (take n buffer) rest) ∙ (ap has_newline (sym first.split) ∙ none) in
    let wrong : true ≡ false = (or_parts _ _ parts).1 in absurd (cc wrong)

refused : (line text : List ℕ) (f : WireFault) → RefusesOpening line text → config_of line ≡ Err f → (text ≡ fault_line f) ⊎ (text ≡ fault_line wire.OutOfMemory)
refused line text f (misread g read is) wrong = (let both : Err g ≡ Err f = sym read ∙ wrong in let same : g ≡ f = cc both in inl (is ∙ ap fault_line same))
refused line text f (unsound c g read refusal is) wrong = (let both : Ok (opening_of c) ≡ Err f = sym read ∙ wrong in absurd (cc both))
refused line text f (not_read is) wrong = inr is

-- of the faults with which lines end, only one is that there were too many
not_at_end : (f : Option TalkFault) → f ≡ Some talk.TooMany → EndsThere f → ⊥
not_at_end f is (inl none) = (let both : None ≡ Some talk.TooMany = sym none ∙ is in absurd (cc both))
not_at_end f is (inr writing) = (let both : Some talk.Writing ≡ Some talk.TooMany = sym writing ∙ is in absurd (cc both))

not_memory : (f : Option TalkFault) → f ≡ Some talk.TooMany → IsFault talk.OutOfMemory f → ⊥
not_memory f is (inl memory) = (let both : Some talk.OutOfMemory ≡ Some talk.TooMany = sym memory ∙ is in absurd (cc both))
not_memory f is (inr writing) = (let both : Some talk.Writing ≡ Some talk.TooMany = sym writing ∙ is in absurd (cc both))

not_long : (f : Option TalkFault) → f ≡ Some talk.TooMany → IsFault talk.TooLong f → ⊥
not_long f is (inl long) = (let both : Some talk.TooLong ≡ Some talk.TooMany = sym long ∙ is in absurd (cc both))
not_long f is (inr writing) = (let both : Some talk.Writing ≡ Some talk.TooMany = sym writing ∙ is in absurd (cc both))

many : {S : Type 0} → (Says : How S) (s t : S) (n e : ℕ) (ls : List (List ℕ)) (f : Option TalkFault) (m d : ℕ) (before last : List ℕ) → f ≡ Some talk.TooMany → LinesAnswered Says s n e ls t f m d before last → m ≡ 1000001
many Says s _ n e _ _ _ _ _ _ is ended = absurd (cc is)
many Says s _ n e _ _ _ _ _ _ is stopped = absurd (cc is)
many Says s _ n e _ _ _ _ _ _ is unpaid = absurd (cc is)
many Says s t n e (l ∷ ls) _ m d _ _ is (cut within short says count counted) = absurd (cc is)
many Says s t n e (l ∷ ls) f m d _ _ is (over within short says ends count counted) = absurd (not_at_end f is ends)
many Says s t n e (l ∷ ls) f m d _ _ is (untold within short says ends count counted) = absurd (not_memory f is ends)
many Says s _ n e _ f m d _ _ is (too_many full ends count counted) = omega (arith, full, count)
many Says s _ n e _ f m d _ _ is (too_long within long ends count counted) = absurd (not_long f is ends)
many Says s t n e (l ∷ ls) f m d _ last is (answered {t = next} {k = k} within short says rest) = many Says next t (n + 1) (e + k) ls f m d _ last is rest

pub ends_mean : EndsMean
ends_mean = record {
  failed = λ buffer rest none.
      let parts = or_parts (has_newline buffer) _ none in
      (λ n line. no_line buffer n parts.0 line.0, λ long. (let short : length buffer ≤ 16384 = ltb-false 16384 (length buffer) parts.1 in let more = long.0 in absurd (omega (arith, short, more))));
  refused = refused;
  too_many = λ s t ls lines errors before last told. many TalkSays s t 0 0 ls (Some talk.TooMany) lines errors before last refl told;
}
