-- What JSON's lexer finds at a place of a line.
use Rattle.std.proofs.Common.{◌≡◌, ℕ, suc, ◌+◌, ◌-◌, ◌*◌, ◌<◌, ◌≤◌, Bool, true, false, cond, ◌&&◌, ◌||◌, ◌==◌, List, [], ◌∷◌, ◌++◌, length, take, drop, get_or, nat_lt, Option, Some, None, is_some, option_and_then, refl, sym, ap, ◌∙◌, arith, add-zero, lt_of_not-le}
use Rattle.std.proofs.lemmas.List.{drop_more, drop-drop, append-nil, append_assoc, get_or-drop, get_or_past, length-drop}
use Rattle.std.proofs.lemmas.Bool.{cond-false, cond-true, true_from_ne_false, eqb-true, ne_eqb, or_parts, not-true, false≢true}
use Rattle.std.proofs.lemmas.List.Sums.{prefix_len-le-length}
use Rattle.std.specs.List.{prefix_len}
use Rattle.std.specs.Char.{IsScalar, digit_value, encode_utf8, is_ascii_digit}
use Rattle.json.specs.Token.{string, number, boolean, null}
use Rattle.json.specs.Text.{code_unit, content, plain, after_backslash, after_high, is_high_surrogate, is_low_surrogate, prepend, short_escape}
use Rattle.json.specs.Ascii.{true_text, false_text, null_text}
use Rattle.json.specs.Word.{head, is_operator, is_space, ends_word, after_minus, after_digits, after_whole, after_fraction, after_exponent, after_number, number_before, literal, word}
use Rattle.json.specs.Run.{is_plain}
use Rattle.tg_wire.specs.Inner.Runs.{Decodes, IsHex, SpellsCharacter}
use Rattle.json.specs.Lex.{Lexeme, token, quote, backslash, operator, space, other, class, operator_lexeme, string_token, Mode, between, in_word, in_string, lex_byte, lex}

-- ---- one byte

-- a byte that is not a space is in the line
pub within : (d : List ℕ) (i x : ℕ) → get_or d i 32 ≡ x → ¬ (x ≡ 32) → i < length d
within d i x e no_space = lt_of_not-le (λ past. no_space (sym e ∙ get_or_past d i 32 past))

at_place : (d : List ℕ) (i x : ℕ) → get_or d i 32 ≡ x → ¬ (x ≡ 32) → drop i d ≡ x ∷ drop (i + 1) d
at_place d i x e no_space = drop_more d i 32 (within d i x e no_space) ∙ ap (λ y. y ∷ drop (i + 1) d) e

pub operator_at : (d : List ℕ) (i x : ℕ) → class x ≡ operator → get_or d i 32 ≡ x → ¬ (x ≡ 32) → lex between (drop i d) ≡ operator_lexeme x ∷ lex between (drop (i + 1) d)
unfolding lex
operator_at d i x is e no_space =
    let rest = drop (i + 1) d in
    ap (lex between) (at_place d i x e no_space) ∙ ap (λ c. lex_byte between c x rest (λ next. lex next rest)) is

quote_at : (d : List ℕ) (i : ℕ) → get_or d i 32 ≡ 34 → lex between (drop i d) ≡ token (string_token (content plain (drop (i + 1) d))) ∷ lex in_string (drop (i + 1) d)
unfolding lex
quote_at d i e = ap (lex between) (at_place d i 34 e (λ z. omega arith))

closing_at : (d : List ℕ) (i : ℕ) → get_or d i 32 ≡ 34 → lex in_string (drop i d) ≡ lex between (drop (i + 1) d)
unfolding lex
closing_at d i e = ap (lex in_string) (at_place d i 34 e (λ z. omega arith))

content_at : (d : List ℕ) (i : ℕ) → get_or d i 32 ≡ 34 → content plain (drop i d) ≡ Some []
unfolding content
content_at d i e = ap (content plain) (at_place d i 34 e (λ z. omega arith))

-- ---- classes

space_class : (x : ℕ) → is_space x ≡ true → class x ≡ space
space_class x is =
    let quoted : (x == 34) ≡ false = grind arith in
    let escaped : (x == 92) ≡ false = grind arith in
    let punctuation : is_operator x ≡ false = grind arith in
    λ i. cond (quoted i) quote (cond (escaped i) backslash (cond (punctuation i) operator (cond (is i) space other)))

digit_class : (x : ℕ) → is_ascii_digit x ≡ true → class x ≡ other
digit_class x is =
    let quoted : (x == 34) ≡ false = grind arith in
    let escaped : (x == 92) ≡ false = grind arith in
    let punctuation : is_operator x ≡ false = grind arith in
    let blank : is_space x ≡ false = grind arith in
    λ i. cond (quoted i) quote (cond (escaped i) backslash (cond (punctuation i) operator (cond (blank i) space other)))

passes : (punctuation blank : Bool) (x : ℕ) (xs : List ℕ) (k : Mode → List Lexeme) → lex_byte in_string (cond punctuation operator (cond blank space other)) x xs k ≡ k in_string
passes true blank x xs k = refl
passes false true x xs k = refl
passes false false x xs k = refl

-- a plain byte is not a quote, a backslash or a control byte
plain_parts : (x : ℕ) → is_plain x ≡ true → ((x == 34) ≡ false) × ((x == 92) ≡ false) × (nat_lt x 32 ≡ false)
plain_parts x e =
    let none = or_parts ((x == 34) || (x == 92)) (nat_lt x 32) (not-true _ e) in
    let tests = or_parts (x == 34) (x == 92) none.0 in
    (tests.0, tests.1, none.1)

plain_passes : (x : ℕ) (xs : List ℕ) (k : Mode → List Lexeme) → is_plain x ≡ true → lex_byte in_string (class x) x xs k ≡ k in_string
plain_passes x xs k is =
    let parts = plain_parts x is in
    (λ i. lex_byte in_string (cond (parts.0 i) quote (cond (parts.1 i) backslash (cond (is_operator x) operator (cond (is_space x) space other)))) x xs k)
    ∙ passes (is_operator x) (is_space x) x xs k

-- ---- runs of bytes

-- bytes over which the lexer stays in its mode and finds no lexeme
module _ (mode : Mode) (test : ℕ → Bool) (stays : (x : ℕ) (xs : List ℕ) → test x ≡ true → lex mode (x ∷ xs) ≡ lex mode xs) where
  lex_run : (b : Bool) (x n : ℕ) (xs : List ℕ) → test x ≡ b → lex mode xs ≡ lex mode (drop n xs) → lex mode (x ∷ xs) ≡ lex mode (drop (cond b (1 + n) 0) (x ∷ xs))
  lex_run false x n xs e ih = refl
  lex_run true x n xs e ih =
      let next : suc n ≡ 1 + n = omega arith in
      stays x xs e ∙ ih ∙ ap (λ k. lex mode (drop k (x ∷ xs))) next

  lex-over : (xs : List ℕ) → lex mode xs ≡ lex mode (drop (prefix_len test xs) xs)
  lex-over [] = refl
  lex-over (x ∷ xs) = lex_run (test x) x (prefix_len test xs) xs refl (lex-over xs)

space_over : (x : ℕ) (xs : List ℕ) → is_space x ≡ true → lex between (x ∷ xs) ≡ lex between xs
unfolding lex
space_over x xs e = ap (λ c. lex_byte between c x xs (λ m. lex m xs)) (space_class x e)

digit_over : (x : ℕ) (xs : List ℕ) → is_ascii_digit x ≡ true → lex in_word (x ∷ xs) ≡ lex in_word xs
unfolding lex
digit_over x xs e = ap (λ c. lex_byte in_word c x xs (λ m. lex m xs)) (digit_class x e)

plain_over : (x : ℕ) (xs : List ℕ) → is_plain x ≡ true → lex in_string (x ∷ xs) ≡ lex in_string xs
unfolding lex
plain_over x xs e = plain_passes x xs (λ m. lex m xs) e

lex-spaces : (xs : List ℕ) → lex between xs ≡ lex between (drop (prefix_len is_space xs) xs)
lex-spaces = lex-over between is_space space_over

lex-digits : (xs : List ℕ) → lex in_word xs ≡ lex in_word (drop (prefix_len is_ascii_digit xs) xs)
lex-digits = lex-over in_word is_ascii_digit digit_over

lex-plain : (xs : List ℕ) → lex in_string xs ≡ lex in_string (drop (prefix_len is_plain xs) xs)
lex-plain = lex-over in_string is_plain plain_over

prepend-prepend : (a b : List ℕ) (r : Option (List ℕ)) → prepend a (prepend b r) ≡ prepend (a ++ b) r
prepend-prepend a b None = refl
prepend-prepend a b (Some s) = ap Some (sym (append_assoc a b s))

prepend-nil : (r : Option (List ℕ)) → r ≡ prepend [] r
prepend-nil None = refl
prepend-nil (Some s) = refl

plain_content : (x : ℕ) (xs : List ℕ) → is_plain x ≡ true → content plain (x ∷ xs) ≡ prepend (x ∷ []) (content plain xs)
unfolding content
plain_content x xs e =
    let parts = plain_parts x e in
    λ i. cond (parts.0 i) (Some []) (cond (parts.1 i) (content after_backslash xs) (cond (parts.2 i) None (prepend (x ∷ []) (content plain xs))))

content_run : (b : Bool) (x n : ℕ) (xs : List ℕ) → is_plain x ≡ b → content plain xs ≡ prepend (take n xs) (content plain (drop n xs))
    → content plain (x ∷ xs) ≡ prepend (take (cond b (1 + n) 0) (x ∷ xs)) (content plain (drop (cond b (1 + n) 0) (x ∷ xs)))
content_run false x n xs e ih = prepend-nil _
content_run true x n xs e ih =
    let next : suc n ≡ 1 + n = omega arith in
    plain_content x xs e ∙ ap (prepend (x ∷ [])) ih ∙ prepend-prepend (x ∷ []) (take n xs) _
    ∙ ap (λ k. prepend (take k (x ∷ xs)) (content plain (drop k (x ∷ xs)))) next

content-plain : (xs : List ℕ) → content plain xs ≡ prepend (take (prefix_len is_plain xs) xs) (content plain (drop (prefix_len is_plain xs) xs))
content-plain [] = prepend-nil _
content-plain (x ∷ xs) = content_run (is_plain x) x (prefix_len is_plain xs) xs refl (content-plain xs)

-- ---- spaces and texts at a place

abbrev pub EndsAt : (ℕ → Bool) → List ℕ → ℕ → ℕ → Type 0
EndsAt p d from end = end ≡ from + prefix_len p (drop from d)

rest_at : (p : ℕ → Bool) (d : List ℕ) (from end : ℕ) → EndsAt p d from end → drop (prefix_len p (drop from d)) (drop from d) ≡ drop end d
rest_at p d from end is = drop-drop (prefix_len p (drop from d)) from d ∙ ap (λ k. drop k d) (sym is)

run_len : (p : ℕ → Bool) (d : List ℕ) (from end : ℕ) → EndsAt p d from end → prefix_len p (drop from d) ≡ end - from
run_len p d from end is = omega arith

pub spaces_at : (d : List ℕ) (from end : ℕ) → EndsAt is_space d from end → lex between (drop from d) ≡ lex between (drop end d)
spaces_at d from end is = lex-spaces (drop from d) ∙ ap (lex between) (rest_at is_space d from end is)

-- what is behind a quote, from one place to another further on in the same text: what was read between them
pub record ReadsOn (d : List ℕ) (from at : ℕ) (text : List ℕ) : Type 0 where
  pub content : content plain (drop from d) ≡ prepend text (content plain (drop at d))
  pub after : lex in_string (drop from d) ≡ lex in_string (drop at d)

pub reads_none : (d : List ℕ) (from : ℕ) → ReadsOn d from from []
reads_none d from = record { content = prepend-nil _; after = refl }

pub reads_further : (d : List ℕ) (from at end : ℕ) (text more : List ℕ) → ReadsOn d from at text → ReadsOn d at end more → ReadsOn d from end (text ++ more)
reads_further d from at end text more first second =
    record {
      content = first.content ∙ ap (prepend text) second.content ∙ prepend-prepend text more _;
      after = first.after ∙ second.after;
    }

pub reads_plain : (d : List ℕ) (at end : ℕ) → EndsAt is_plain d at end → ReadsOn d at end (take (end - at) (drop at d))
reads_plain d at end is =
    let xs = drop at d in
    let rest = rest_at is_plain d at end is in
    record {
      content = content-plain xs ∙ ap (λ s. prepend (take (prefix_len is_plain xs) xs) (content plain s)) rest ∙ ap (λ k. prepend (take k xs) (content plain (drop end d))) (run_len is_plain d at end is);
      after = lex-plain xs ∙ ap (lex in_string) rest;
    }

escaped_content : (x c : ℕ) (xs : List ℕ) → short_escape x ≡ Some c → content plain (92 ∷ x ∷ xs) ≡ prepend (c ∷ []) (content plain xs)
unfolding content short_escape
escaped_content x c xs means =
    let short : (x == 117) ≡ false = ne_eqb x 117 (λ is. false≢true (sym (ap is_some (sym means ∙ ap short_escape is)))) in
    cond-false (x == 117) _ _ short ∙ ap (option_and_then (λ y. prepend (y ∷ []) (content plain xs))) means

escaped_over : (x : ℕ) (xs : List ℕ) → lex in_string (92 ∷ x ∷ xs) ≡ lex in_string xs
unfolding lex
escaped_over x xs = refl

-- a space behind a backslash means no byte
no_blank : (x c : ℕ) → short_escape x ≡ Some c → ¬ (x ≡ 32)
unfolding short_escape
no_blank x c means blank = false≢true (sym (ap is_some (sym means ∙ ap short_escape blank)))

-- a backslash, and a byte that says which byte is meant
pub reads_escape : (d : List ℕ) (at c : ℕ) → get_or d at 32 ≡ 92 → short_escape (get_or d (at + 1) 32) ≡ Some c → ReadsOn d at (at + 2) (c ∷ [])
reads_escape d at c is means =
    let x = get_or d (at + 1) 32 in
    let next : at + 1 + 1 ≡ at + 2 = omega arith in
    let both : drop at d ≡ 92 ∷ x ∷ drop (at + 2) d =
    at_place d at 92 is (λ z. omega arith) ∙ ap (λ t. 92 ∷ t) (at_place d (at + 1) x refl (no_blank x c means) ∙ ap (λ k. x ∷ drop k d) next) in
    record {
      content = ap (content plain) both ∙ escaped_content x c (drop (at + 2) d) means;
      after = ap (lex in_string) both ∙ escaped_over x (drop (at + 2) d);
    }

pub escape_within : (d : List ℕ) (at c : ℕ) → short_escape (get_or d (at + 1) 32) ≡ Some c → at + 2 ≤ length d
escape_within d at c means =
    let inside = within d (at + 1) _ refl (no_blank _ c means) in
    omega arith

-- ---- four hex digits behind a backslash and a `u`

hex_plain : (x : ℕ) → digit_value x < 16 → is_plain x ≡ true
hex_plain x small = grind arith

hex_byte : (d : List ℕ) (at digit : ℕ) → IsHex d at digit → (get_or d at 32 ≡ 32 → ⊥)
hex_byte d at digit is blank = omega (arith, ap digit_value blank, is.value, is.small)

hex_over : (d : List ℕ) (at digit : ℕ) → IsHex d at digit → (xs : List ℕ) → lex in_string (get_or d at 32 ∷ xs) ≡ lex in_string xs
hex_over d at digit is xs = plain_over (get_or d at 32) xs (hex_plain (get_or d at 32) (omega (arith, is.value, is.small)))

hex_at : (d : List ℕ) (at digit : ℕ) → IsHex d at digit → drop at d ≡ get_or d at 32 ∷ drop (at + 1) d
hex_at d at digit is = at_place d at (get_or d at 32) refl (hex_byte d at digit is)

spelled_unit : (a b e f : ℕ) → digit_value a < 16 → digit_value b < 16 → digit_value e < 16 → digit_value f < 16
    → code_unit a b e f ≡ Some (digit_value a * 4096 + digit_value b * 256 + digit_value e * 16 + digit_value f)
unfolding code_unit
spelled_unit a b e f first second third fourth =
    let is : (x : ℕ) → x < 16 → nat_lt x 16 ≡ true = λ x small. grind arith in
    λ i. cond (is _ first i && is _ second i && is _ third i && is _ fourth i) (Some (digit_value a * 4096 + digit_value b * 256 + digit_value e * 16 + digit_value f)) None

not_high : (c : ℕ) → IsScalar c → is_high_surrogate c ≡ false
not_high c is = grind arith

not_low : (c : ℕ) → IsScalar c → is_low_surrogate c ≡ false
not_low c is = grind arith

unit_content : (a b e f u : ℕ) (xs : List ℕ) → code_unit a b e f ≡ Some u → is_high_surrogate u ≡ false → is_low_surrogate u ≡ false
    → content plain (92 ∷ 117 ∷ a ∷ b ∷ e ∷ f ∷ xs) ≡ prepend (encode_utf8 u) (content plain xs)
unfolding content
unit_content a b e f u xs is high low =
    ap (option_and_then (λ c. cond (is_high_surrogate c) (content (after_high c) xs) (cond (is_low_surrogate c) None (prepend (encode_utf8 c) (content plain xs))))) is
    ∙ cond-false (is_high_surrogate u) _ _ high ∙ cond-false (is_low_surrogate u) _ _ low

-- a character that is spelled
pub reads_unit : (d : List ℕ) (at c : ℕ) → get_or d at 32 ≡ 92 → get_or d (at + 1) 32 ≡ 117 → SpellsCharacter d (at + 2) c → ReadsOn d at (at + 6) (encode_utf8 c)
reads_unit d at c opens unit spelled =
    let x1 = get_or d (at + 2) 32 in
    let x2 = get_or d (at + 2 + 1) 32 in
    let x3 = get_or d (at + 2 + 2) 32 in
    let x4 = get_or d (at + 2 + 3) 32 in
    let rest = drop (at + 6) d in
    let two : at + 1 + 1 ≡ at + 2 = omega arith in
    let four : at + 2 + 1 + 1 ≡ at + 2 + 2 = omega arith in
    let five : at + 2 + 2 + 1 ≡ at + 2 + 3 = omega arith in
    let six : at + 2 + 3 + 1 ≡ at + 6 = omega arith in
    let from_fourth : drop (at + 2 + 3) d ≡ x4 ∷ rest = hex_at d (at + 2 + 3) spelled.f spelled.fourth ∙ ap (λ k. x4 ∷ drop k d) six in
    let from_third : drop (at + 2 + 2) d ≡ x3 ∷ x4 ∷ rest = hex_at d (at + 2 + 2) spelled.e spelled.third ∙ ap (λ k. x3 ∷ drop k d) five ∙ ap (λ l. x3 ∷ l) from_fourth in
    let from_second : drop (at + 2 + 1) d ≡ x2 ∷ x3 ∷ x4 ∷ rest = hex_at d (at + 2 + 1) spelled.b spelled.second ∙ ap (λ k. x2 ∷ drop k d) four ∙ ap (λ l. x2 ∷ l) from_third in
    let from_first : drop (at + 2) d ≡ x1 ∷ x2 ∷ x3 ∷ x4 ∷ rest = hex_at d (at + 2) spelled.a spelled.first ∙ ap (λ l. x1 ∷ l) from_second in
    let all : drop at d ≡ 92 ∷ 117 ∷ x1 ∷ x2 ∷ x3 ∷ x4 ∷ rest =
    at_place d at 92 opens (λ z. omega arith) ∙ ap (λ l. 92 ∷ l) (at_place d (at + 1) 117 unit (λ z. omega arith) ∙ ap (λ k. 117 ∷ drop k d) two ∙ ap (λ l. 117 ∷ l) from_first) in
    let is : code_unit x1 x2 x3 x4 ≡ Some c =
    spelled_unit x1 x2 x3 x4 (omega (arith, spelled.first.value, spelled.first.small)) (omega (arith, spelled.second.value, spelled.second.small))
    (omega (arith, spelled.third.value, spelled.third.small)) (omega (arith, spelled.fourth.value, spelled.fourth.small))
    ∙ ap Some (omega (arith, spelled.first.value, spelled.second.value, spelled.third.value, spelled.fourth.value, spelled.is)) in
    record {
      content = ap (content plain) all ∙ unit_content x1 x2 x3 x4 c rest is (not_high c spelled.scalar) (not_low c spelled.scalar);
      after = ap (lex in_string) all ∙ escaped_over 117 (x1 ∷ x2 ∷ x3 ∷ x4 ∷ rest) ∙ hex_over d (at + 2) spelled.a spelled.first (x2 ∷ x3 ∷ x4 ∷ rest)
          ∙ hex_over d (at + 2 + 1) spelled.b spelled.second (x3 ∷ x4 ∷ rest) ∙ hex_over d (at + 2 + 2) spelled.e spelled.third (x4 ∷ rest)
          ∙ hex_over d (at + 2 + 3) spelled.f spelled.fourth rest;
    }

pub unit_within : (d : List ℕ) (at c : ℕ) → SpellsCharacter d at c → at + 4 ≤ length d
unit_within d at c spelled =
    let inside = within d (at + 3) _ refl (hex_byte d (at + 3) spelled.f spelled.fourth) in
    omega arith

pub decoded : (d : List ℕ) (from end : ℕ) (text : List ℕ) → ReadsOn d from end text → get_or d end 32 ≡ 34 → Decodes d from text (end + 1)
decoded d from end text reads closes =
    record {
      content = reads.content ∙ ap (prepend text) (content_at d end closes) ∙ ap Some (append-nil text);
      after = reads.after ∙ closing_at d end closes;
    }

pub decoded_at : (d : List ℕ) (i end : ℕ) (text : List ℕ) → get_or d i 32 ≡ 34 → Decodes d (i + 1) text end → lex between (drop i d) ≡ token (string text) ∷ lex between (drop end d)
decoded_at d i end text opens is =
    quote_at d i opens ∙ ap (λ o. token (string_token o) ∷ lex in_string (drop (i + 1) d)) is.content ∙ ap (λ ls. token (string text) ∷ ls) is.after

pub text_at : (d : List ℕ) (i end : ℕ) → get_or d i 32 ≡ 34 → EndsAt is_plain d (i + 1) end → get_or d end 32 ≡ 34
    → lex between (drop i d) ≡ token (string (take (end - (i + 1)) (drop (i + 1) d))) ∷ lex between (drop (end + 1) d)
text_at d i end opens is closes = decoded_at d i (end + 1) _ opens (decoded d (i + 1) end _ (reads_plain d (i + 1) end is) closes)

-- ---- numbers

-- a comma, a closing brace or a space
abbrev pub ends_number : ℕ → Bool
ends_number x = x == 44 || x == 125 || x == 32

minus_none : (t : List ℕ) → is_ascii_digit (head t) ≡ true → after_minus t ≡ t
minus_none t digit = cond-false (head t == 45) _ _ (grind arith)

whole_by : (b : Bool) (t : List ℕ) (n : ℕ) → (head t == 48) ≡ b → n ≡ prefix_len is_ascii_digit t → 0 < n → (head t ≡ 48 → n ≤ 1) → cond b (Some (drop 1 t)) (after_digits t) ≡ Some (drop n t)
whole_by true t n zero is some unpadded =
    let one : 1 ≡ n = omega (arith, unpadded (eqb-true (head t) 48 zero)) in
    ap (λ k. Some (drop k t)) one
whole_by false t n zero is some unpadded =
    cond-false (prefix_len is_ascii_digit t == 0) _ _ (ne_eqb (prefix_len is_ascii_digit t) 0 (λ none. omega arith)) ∙ ap (λ k. Some (drop k t)) (sym is)

whole_is : (t : List ℕ) (n : ℕ) → n ≡ prefix_len is_ascii_digit t → 0 < n → (head t ≡ 48 → n ≤ 1) → after_whole t ≡ Some (drop n t)
whole_is t n is some unpadded = whole_by (head t == 48) t n refl is some unpadded

fraction_none : (t : List ℕ) → ends_number (head t) ≡ true → after_fraction t ≡ Some t
fraction_none t ends = cond-false (head t == 46) _ _ (grind arith)

exponent_none : (t : List ℕ) → ends_number (head t) ≡ true → after_exponent t ≡ Some t
exponent_none t ends = cond-false ((head t == 101) || (head t == 69)) _ _ (grind arith)

word_ends : (t : List ℕ) → ends_number (head t) ≡ true → ends_word t ≡ true
word_ends t ends = grind arith

after_number_is : (t : List ℕ) (n : ℕ) → n ≡ prefix_len is_ascii_digit t → 0 < n → is_ascii_digit (head t) ≡ true → (head t ≡ 48 → n ≤ 1) → ends_number (head (drop n t)) ≡ true → after_number t ≡ Some (drop n t)
unfolding after_number
after_number_is t n is some digit unpadded ends =
    ap (λ s. option_and_then after_exponent (option_and_then after_fraction (after_whole s))) (minus_none t digit)
    ∙ ap (λ o. option_and_then after_exponent (option_and_then after_fraction o)) (whole_is t n is some unpadded)
    ∙ ap (option_and_then after_exponent) (fraction_none (drop n t) ends) ∙ exponent_none (drop n t) ends

word_is : (t : List ℕ) (n : ℕ) → n ≡ prefix_len is_ascii_digit t → 0 < n → n ≤ length t → is_ascii_digit (head t) ≡ true → (head t ≡ 48 → n ≤ 1) → ends_number (head (drop n t)) ≡ true → word t ≡ number (take n t)
unfolding word
word_is t n is some short digit unpadded ends =
    let true_word : (head t == 116) ≡ false = grind arith in
    let false_word : (head t == 102) ≡ false = grind arith in
    let null_word : (head t == 110) ≡ false = grind arith in
    let len : length t - length (drop n t) ≡ n = omega (arith, length-drop n t) in
    (λ i. cond (true_word i) (literal true_text (boolean true) t) (cond (false_word i) (literal false_text (boolean false) t)
    (cond (null_word i) (literal null_text null t) (number_before t (after_number_is t n is some digit unpadded ends i)))))
    ∙ cond-true (ends_word (drop n t)) _ _ (word_ends (drop n t) ends) ∙ ap (λ k. number (take k t)) len

over : (punctuation blank : Bool) (x : ℕ) (xs : List ℕ) (k : Mode → List Lexeme) → (punctuation || blank) ≡ true
    → lex_byte in_word (cond punctuation operator (cond blank space other)) x xs k ≡ lex_byte between (cond punctuation operator (cond blank space other)) x xs k
over true blank x xs k e = refl
over false true x xs k e = refl
over false false x xs k e = absurd (false≢true e)

end_by : (x : ℕ) (xs : List ℕ) (k : Mode → List Lexeme) → ends_number x ≡ true → lex_byte in_word (class x) x xs k ≡ lex_byte between (class x) x xs k
end_by x xs k ends =
    let quoted : (x == 34) ≡ false = grind arith in
    let escaped : (x == 92) ≡ false = grind arith in
    let ending : (is_operator x || is_space x) ≡ true = grind arith in
    let is : class x ≡ cond (is_operator x) operator (cond (is_space x) space other) = λ i. cond (quoted i) quote (cond (escaped i) backslash (cond (is_operator x) operator (cond (is_space x) space other))) in
    ap (λ c. lex_byte in_word c x xs k) is ∙ over (is_operator x) (is_space x) x xs k ending ∙ ap (λ c. lex_byte between c x xs k) (sym is)

word_over : (t : List ℕ) → ends_number (head t) ≡ true → lex in_word t ≡ lex between t
unfolding lex
word_over [] ends = refl
word_over (x ∷ xs) ends = end_by x xs (λ m. lex m xs) ends

digit_first : (t : List ℕ) → 0 < prefix_len is_ascii_digit t → is_ascii_digit (head t) ≡ true
digit_first [] some = absurd (omega arith)
digit_first (x ∷ xs) some = true_from_ne_false (is_ascii_digit x) (λ no.
    let none : prefix_len is_ascii_digit (x ∷ xs) ≡ 0 = ap (λ b. cond b (1 + prefix_len is_ascii_digit xs) 0) no in
    omega arith)

number_lexed : (t : List ℕ) (n : ℕ) → n ≡ prefix_len is_ascii_digit t → 0 < n → (head t ≡ 48 → n ≤ 1) → ends_number (head (drop n t)) ≡ true → lex between t ≡ token (number (take n t)) ∷ lex between (drop n t)
unfolding lex
number_lexed [] n is some unpadded ends = absurd (omega arith)
number_lexed (x ∷ xs) n is some unpadded ends =
    let digit = digit_first (x ∷ xs) (omega arith) in
    let m = prefix_len is_ascii_digit xs in
    let next : suc m ≡ n = omega (arith, ap (λ b. cond b (1 + m) 0) digit) in
    let rest : lex in_word xs ≡ lex between (drop n (x ∷ xs)) = lex-digits xs ∙ ap (λ k. lex in_word (drop k (x ∷ xs))) next ∙ word_over (drop n (x ∷ xs)) ends in
    let first = word_is (x ∷ xs) n is some (omega (arith, prefix_len-le-length is_ascii_digit (x ∷ xs))) digit unpadded ends in
    ap (λ c. lex_byte between c x xs (λ k. lex k xs)) (digit_class x digit) ∙ ap (λ w. token w ∷ lex in_word xs) first ∙ ap (λ ls. token (number (take n (x ∷ xs))) ∷ ls) rest

head_at : (d : List ℕ) (i : ℕ) → head (drop i d) ≡ get_or d i 32
head_at d i = get_or-drop i d 0 32 ∙ ap (λ k. get_or d k 32) (add-zero i)

pub number_at : (d : List ℕ) (i end : ℕ) → EndsAt is_ascii_digit d i end → ¬ (end ≡ i) → (get_or d i 32 ≡ 48 → end - i ≤ 1) → ends_number (get_or d end 32) ≡ true
    → lex between (drop i d) ≡ token (number (take (end - i) (drop i d))) ∷ lex between (drop end d)
number_at d i end is some unpadded ends =
    let t = drop i d in
    let n = end - i in
    let digits : n ≡ prefix_len is_ascii_digit t = sym (run_len is_ascii_digit d i end is) in
    let rest : drop n t ≡ drop end d = ap (λ k. drop k t) digits ∙ rest_at is_ascii_digit d i end is in
    number_lexed t n digits (omega arith) (λ zero. unpadded (sym (head_at d i) ∙ zero)) (ap (λ s. ends_number (head s)) rest ∙ ap ends_number (head_at d end) ∙ ends)
    ∙ ap (λ s. token (number (take n t)) ∷ lex between s) rest

pub lex-nil : lex between [] ≡ []
unfolding lex
lex-nil = refl
