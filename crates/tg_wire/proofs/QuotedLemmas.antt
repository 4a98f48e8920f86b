-- A word with a quote after it at the front of some bytes.
use Rattle.std.proofs.Common.{◌≡◌, ℕ, zero, suc, ◌+◌, ◌-◌, ◌<◌, List, [], ◌∷◌, ◌++◌, length, take, drop, get_or, refl, sym, ap, ap₂, ◌∙◌, arith, append_assoc, take-append-drop, length-append}
use Rattle.std.proofs.lemmas.List.{get_or-take, get_or-drop, get_or_at, get_or_append_left, take_all, take_at, take_more}
use Rattle.std.specs.Io.{StartsWith}
use Rattle.std.specs.List.{prefix_len}
use Rattle.json.specs.Token.{string}
use Rattle.json.specs.Run.{is_plain}
use Rattle.json.specs.Lex.{token, between, lex}
use Rattle.tg_wire.specs.Inner.Keys.{key_text}
use Rattle.tg_wire.specs.declared.key.Key.{Key}
use Rattle.tg_wire.specs.declared.key.Key.TheVariants as key
use Rattle.tg_wire.proofs.LexemesLemmas.{EndsAt, text_at}

abbrev pub quoted : List ℕ → List ℕ
quoted word = word ++ 34 ∷ []

quoted_length : (word : List ℕ) → length (quoted word) ≡ length word + 1
quoted_length word = length-append word (34 ∷ [])

same_byte : (xs word : List ℕ) (k : ℕ) → StartsWith xs (quoted word) → k < length word + 1 → get_or xs k 0 ≡ get_or (quoted word) k 0
same_byte xs word k starts below = sym (get_or-take (length (quoted word)) xs k 0 (omega (arith, quoted_length word))) ∙ ap (λ l. get_or l k 0) starts

-- a byte differs
pub no_quoted : (xs word text : List ℕ) (k : ℕ) → word ≡ text → k < length word → ¬ (get_or xs k 0 ≡ get_or word k 0) → ¬ StartsWith xs (quoted text)
no_quoted xs word text k same below other starts =
    let within : k < length text = omega (arith, ap length same) in
    other (same_byte xs text k starts (omega arith) ∙ get_or_append_left text (34 ∷ []) 0 k within ∙ ap (λ l. get_or l k 0) (sym same))

-- the quote is there
pub ends_in_quote : (xs word text : List ℕ) (n : ℕ) → word ≡ text → n ≡ length word → StartsWith xs (quoted text) → get_or xs n 0 ≡ 34
ends_in_quote xs word text n same is starts =
    let all : length text ≡ n = omega (arith, ap length same) in
    same_byte xs text n starts (omega arith) ∙ get_or_at text 34 [] 0 n all

pub is_quoted : (xs word text : List ℕ) (n : ℕ) → word ≡ text → n ≡ length word → n < length xs → take n xs ≡ take n word → get_or xs n 0 ≡ 34 → StartsWith xs (quoted text)
is_quoted xs word text n same is within front quote =
    let long : length (quoted text) ≡ n + 1 = omega (arith, quoted_length text, ap length same) in
    let letters : take n xs ≡ text = front ∙ take_all n word (omega arith) ∙ same in
    ap (λ k. take k xs) long ∙ take_more xs n 0 within ∙ ap₂ (λ l y. l ++ y ∷ []) letters quote

-- the first few of some bytes are bytes
pub first_are_bytes : (n : ℕ) (xs : List ℕ) → ((k : ℕ) → get_or xs k 0 < 256) → (i : ℕ) → get_or (take n xs) i 0 < 256
first_are_bytes zero xs below i = omega arith
first_are_bytes (suc n) [] below i = omega arith
first_are_bytes (suc n) (x ∷ xs) below zero = below 0
first_are_bytes (suc n) (x ∷ xs) below (suc i) = first_are_bytes n xs (λ k. below (suc k)) i

-- ---- a key at a place of a line

plain_key : (key : Key) (rest : List ℕ) → prefix_len is_plain (key_text key ++ 34 ∷ rest) ≡ length (key_text key)
plain_key key.Op rest = refl
plain_key key.Seat rest = refl
plain_key key.Actor rest = refl
plain_key key.Agent rest = refl
plain_key key.Over rest = refl
plain_key key.From rest = refl
plain_key key.To rest = refl
plain_key key.At rest = refl
plain_key key.Rights rest = refl
plain_key key.Kind rest = refl
plain_key key.Text rest = refl
plain_key key.Name rest = refl
plain_key key.Principals rest = refl
plain_key key.Edges rest = refl
plain_key key.Next rest = refl
plain_key key.Slots rest = refl
plain_key key.Cells rest = refl

pub key_at : (d : List ℕ) (i : ℕ) (key : Key) → get_or d i 32 ≡ 34 → StartsWith (drop (i + 1) d) (quoted (key_text key))
    → lex between (drop i d) ≡ token (string (key_text key)) ∷ lex between (drop (i + length (key_text key) + 2) d)
key_at d i key opens starts =
    let xs = drop (i + 1) d in
    let text = key_text key in
    let end = i + 1 + length text in
    let rest = drop (length text + 1) xs in
    let split : xs ≡ text ++ 34 ∷ rest = sym (take-append-drop (length (quoted text)) xs) ∙ ap₂ (λ a n. a ++ drop n xs) starts (quoted_length text) ∙ append_assoc text (34 ∷ []) rest in
    let ends : EndsAt is_plain d (i + 1) end = ap (λ n. i + 1 + n) (sym (ap (prefix_len is_plain) split ∙ plain_key key rest)) in
    let closes : get_or d end 32 ≡ 34 = sym (get_or-drop (i + 1) d (length text) 32) ∙ ap (λ l. get_or l (length text) 32) split ∙ get_or_at text 34 rest 32 (length text) refl in
    let size : end - (i + 1) ≡ length text = omega arith in
    let word : take (end - (i + 1)) xs ≡ text = ap₂ take size split ∙ take_at text (34 ∷ rest) (length text) refl in
    let after : end + 1 ≡ i + length text + 2 = omega arith in
    text_at d i end opens ends closes ∙ ap₂ (λ s n. token (string s) ∷ lex between (drop n d)) word after
