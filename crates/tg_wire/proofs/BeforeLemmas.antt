-- Parts of a line that are written before what stands.
use Rattle.std.proofs.Common.{◌≡◌, ℕ, ◌+◌, ◌-◌, ◌≤◌, ◌++◌, Bool, true, false, refl, ap, ◌∙◌, List, length, take, drop, arith, slice_index_or}
use Rattle.std.proofs.lemmas.List.{drop-drop, drop_at, drop-append-le, length-take-le}
use Rattle.json.specs.Print.{escape_byte, quoted}
use borrow.Rule.Slice.PartMut.{put_mid}
use Rattle.tg_rights.specs.Promise.Letters.{Letters, number}
use Rattle.tg_rights.specs.Promise.Written.{rights_text}
use Rattle.tg_wire.specs.declared.before.TheConstants.{LETTERS}

-- ---- some bytes

-- bytes are put before what stands, and the last of them count
pub placed : (room bytes : List ℕ) (end all last : ℕ) → length bytes ≡ all → last ≤ all → all ≤ end → end ≤ length room
    → drop (end - last) (put_mid (end - all) (end - (end - all)) room bytes) ≡ drop (all - last) bytes ++ drop end room
placed room bytes end all last size few low high =
    let start = end - all in
    let at : end - last ≡ start + (all - last) = omega arith in
    let whole : start + (end - start) ≡ end = omega arith in
    let front : length (take start room) ≡ start = length-take-le start room (omega arith) in
    let rest = drop (end - start) (drop start room) in
    let past : drop start (put_mid start (end - start) room bytes) ≡ bytes ++ rest = drop_at (take start room) (bytes ++ rest) start front in
    let left : rest ≡ drop end room = drop-drop (end - start) start room ∙ ap (λ n. drop n room) whole in
    rw (at, ← drop-drop (all - last) start (put_mid start (end - start) room bytes), past, drop-append-le (all - last) bytes rest (omega arith), left) refl

-- ---- the letters of rights

-- a row of the table: what it ends with, and that it does
abbrev pub EndsWith : List ℕ × ℕ → List ℕ → Type 0
EndsWith row said = (length row.0 ≡ 8) × (row.1 ≤ 6) × (drop (8 - row.1) row.0 ≡ said)

row_ends : (d : List ℕ × ℕ) (r w t g : Bool) → let rights : Letters = record { read = r; write = w; take = t; grant = g } in EndsWith (slice_index_or LETTERS (number rights) d) (quoted (rights_text rights))
unfolding escape_byte
row_ends d false false false false = (refl, omega arith, refl)
row_ends d false false false true = (refl, omega arith, refl)
row_ends d false false true false = (refl, omega arith, refl)
row_ends d false false true true = (refl, omega arith, refl)
row_ends d false true false false = (refl, omega arith, refl)
row_ends d false true false true = (refl, omega arith, refl)
row_ends d false true true false = (refl, omega arith, refl)
row_ends d false true true true = (refl, omega arith, refl)
row_ends d true false false false = (refl, omega arith, refl)
row_ends d true false false true = (refl, omega arith, refl)
row_ends d true false true false = (refl, omega arith, refl)
row_ends d true false true true = (refl, omega arith, refl)
row_ends d true true false false = (refl, omega arith, refl)
row_ends d true true false true = (refl, omega arith, refl)
row_ends d true true true false = (refl, omega arith, refl)
row_ends d true true true true = (refl, omega arith, refl)

-- the row of some rights
pub row_of : (d : List ℕ × ℕ) (rights : Letters) → EndsWith (slice_index_or LETTERS (number rights) d) (quoted (rights_text rights))
row_of d rights = row_ends d rights.read rights.write rights.take rights.grant
