-- A server's configuration line.
use Rattle.std.proofs.Common.{◌≡◌, ◌↔◌, ◌∙◌, ℕ, ◌<◌, ◌≤◌, List, [], length, Bool, true, Option, IfSome, Result, Ok, Err, IfOk, IfErr, sym, ap, subst, arith, length-append}
use Rattle.std.specs.Borrow.{Bor}
use Rattle.tg_graph.specs.declared.config.OpenFault.{OpenFault}
use Rattle.tg_vault.specs.Promise.Contents.{Contents}
use Rattle.tg_wire.specs.Promise.Faults.{fault_line, open_fault_line}
use Rattle.tg_wire.specs.declared.fault.WireFault.{WireFault}
use Rattle.tg_wire.specs.declared.fault.WireFault.TheVariants as wire
use Rattle.tg_talk.specs.Promise.InputLines.{lines_of}
use Rattle.tg_talk.specs.Promise.Taking.{HasLine, TakesLine}
use Rattle.tg_talk.proofs.TakingLemmas.{weaker}
use Rattle.tg_talk.specs.Promise.Opening.{OpensVault, RefusesOpening, misread, not_read, unsound}
use Rattle.tg_serve.specs.Inner.Serving.{OpensBytes, RefusesBytes, no_line, refused, too_long}
use Rattle.tg_talk.proofs.OpeningLemmas.{empty_line}

-- ---- the line of a refusal has bytes

pub fault_has_text : (text : List ℕ) (f : WireFault) → text ≡ fault_line f → text ≡ [] → ⊥
unfolding fault_line
fault_has_text text f same none = omega (arith, length-append {A = ℕ}, ap length (sym same ∙ none))

open_fault_has_text : (text : List ℕ) (f : OpenFault) → text ≡ open_fault_line f → text ≡ [] → ⊥
unfolding open_fault_line
open_fault_has_text text f same none = omega (arith, length-append {A = ℕ}, ap length (sym same ∙ none))

pub refusal_has_text : (line text : List ℕ) → RefusesOpening line text → text ≡ [] → ⊥
refusal_has_text line text (misread f read same) none = fault_has_text text f same none
refusal_has_text line text (unsound c f read is same) none = open_fault_has_text text f same none
refusal_has_text line text (not_read same) none = fault_has_text text wire.OutOfMemory same none

-- a text is written, and the reader has not failed
pub is_told : (text : List ℕ) (failed : Bool) → (text ≡ [] → ⊥) → (failed ≡ true → ⊥) → (text ≡ []) ↔ (failed ≡ true)
is_told text failed some reads = (λ none. absurd (some none), λ fails. absurd (reads fails))

-- ---- what the bytes begin with

pub bytes_no_line : (text xs : List ℕ) → xs ≡ [] → text ≡ fault_line wire.NotJson → RefusesBytes text xs
unfolding lines_of
bytes_no_line text xs over same = rw (over, same) (no_line empty_line)

pub bytes_too_long : (text xs line : List ℕ) → HasLine xs line → 16384 < length line → text ≡ fault_line wire.TooLong → RefusesBytes text xs
bytes_too_long text xs line has long same = rw has.split (too_long long same)

bytes_refused : (text xs line : List ℕ) (left : Option (List ℕ)) → TakesLine line xs left → length line ≤ 16384 → RefusesOpening line text → RefusesBytes text xs
bytes_refused text xs line left takes short refuses = rw takes.taken (refused short refuses)

bytes_opened : (v : Contents) (xs line : List ℕ) (left : Option (List ℕ)) → TakesLine line xs left → length line ≤ 16384 → OpensVault line v → OpensBytes v xs
bytes_opened v xs line left takes short opens = record { first = line; others = lines_of takes.rest; are = takes.taken; short = short; opens = opens }

-- ---- the result of opening the first line

pub line_opens : (r : Result Contents (Bor (List ℕ))) (o : Option (List ℕ)) (bytes line : List ℕ) (left : Option (List ℕ)) → bytes ≡ line → length line ≤ 16384 → IfSome o (λ xs. TakesLine line xs left)
    → IfOk r (OpensVault bytes) → IfOk r (λ v. IfSome o (OpensBytes v))
line_opens (Ok v) o bytes line left same short takes opens =
    weaker o (λ xs. TakesLine line xs left) (OpensBytes v) takes (λ xs t. bytes_opened v xs line left t short (subst (λ b. OpensVault b v) same opens))
line_opens (Err text) o bytes line left same short takes opens = tt

pub line_refused : (r : Result Contents (Bor (List ℕ))) (o : Option (List ℕ)) (bytes line : List ℕ) (left : Option (List ℕ)) → bytes ≡ line → length line ≤ 16384 → IfSome o (λ xs. TakesLine line xs left)
    → IfErr r (λ text. RefusesOpening bytes text.now) → IfErr r (λ text. IfSome o (RefusesBytes text.now))
line_refused (Ok v) o bytes line left same short takes refuses = tt
line_refused (Err text) o bytes line left same short takes refuses =
    weaker o (λ xs. TakesLine line xs left) (RefusesBytes text.now) takes (λ xs t. bytes_refused text.now xs line left t short (subst (λ b. RefusesOpening b text.now) same refuses))

pub line_told : (r : Result Contents (Bor (List ℕ))) (bytes : List ℕ) (failed : Bool) → (failed ≡ true → ⊥) → IfErr r (λ text. RefusesOpening bytes text.now) → IfErr r (λ text. (text.now ≡ []) ↔ (failed ≡ true))
line_told (Ok v) bytes failed reads refuses = tt
line_told (Err text) bytes failed reads refuses = is_told text.now failed (refusal_has_text bytes text.now refuses) reads
