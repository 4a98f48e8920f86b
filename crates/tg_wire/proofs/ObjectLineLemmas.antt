-- A line as it is written, one part after another.
use Rattle.std.proofs.Common.{◌≡◌, ℕ, ◌+◌, ◌/◌, ◌%◌, ◌<◌, ◌≤◌, ◌++◌, ◌∷◌, [], Bool, true, false, refl, sym, ap, ◌∙◌, List, append_assoc, decimal, arith}
use Rattle.std.specs.Prelude.{if◌then◌else◌, Result, Ok, Err, OnOk}
use Rattle.std.specs.Result.{is_ok}
use Rattle.std.proofs.lemmas.Fmt.{decimal_step, decimal_digit}
use Rattle.json.specs.Print.{escape, escape_byte, quoted}
use Rattle.json.specs.Token as token
use Rattle.json.specs.Token.{Token}
use Rattle.json.specs.Print.{print}
use Rattle.serde_json.specs.Data.{Data, object, string, Members, member}
use Rattle.serde_json.proofs.Texts.{print-outline}
use Rattle.serde_json.specs.Written.{comma_if, compact_text, members_text}
use Rattle.tg_rights.specs.Promise.Letters.{Letters}
use Rattle.tg_rights.specs.Promise.Written.{rights_text}
use Rattle.tg_wire.specs.Promise.Faults.{line_text}
use Rattle.tg_wire.specs.Inner.Told.{byte_if, led_text}

pub led : (front lead : List ℕ) (d : Data) → ((front ++ lead) ++ compact_text d) ++ 125 ∷ 10 ∷ [] ≡ front ++ led_text lead d
led front lead d = simp append_assoc

-- a line feed after a number and the rest
pub fed : (lead d rest : List ℕ) → lead ++ (d ++ (rest ++ 10 ∷ [])) ≡ lead ++ ((d ++ rest) ++ 10 ∷ [])
fed lead d rest = simp append_assoc

pub in_three : (lead text : List ℕ) → (lead ++ text) ++ 34 ∷ 125 ∷ 10 ∷ [] ≡ lead ++ (text ++ 34 ∷ 125 ∷ 10 ∷ [])
in_three lead text = append_assoc lead text _

pub braced : (front : List ℕ) (ms : Members) → ((front ++ 123 ∷ []) ++ members_text false ms) ++ 10 ∷ [] ≡ front ++ line_text (object ms)
braced front ms = simp append_assoc

in_a_row : (a b c d e f : List ℕ) → ((((a ++ b) ++ c) ++ d) ++ e) ++ f ≡ a ++ (b ++ (c ++ (d ++ (e ++ f))))
in_a_row a b c d e f = simp append_assoc

-- a text that needs no escape, between its quotes and what stands around them
pub closed : (lead s : List ℕ) → escape s ≡ s → lead ++ (s ++ 34 ∷ 125 ∷ 10 ∷ []) ≡ lead ++ (((escape s ++ 34 ∷ []) ++ 125 ∷ []) ++ 10 ∷ [])
closed lead s plain =
    let flat : s ++ 34 ∷ 125 ∷ 10 ∷ [] ≡ ((s ++ 34 ∷ []) ++ 125 ∷ []) ++ 10 ∷ [] = simp append_assoc in
    ap (λ l. lead ++ l) (flat ∙ ap (λ l. ((l ++ 34 ∷ []) ++ 125 ∷ []) ++ 10 ∷ []) (sym plain))

-- one more member
pub member_more : (front : List ℕ) (later : Bool) (key : List ℕ) (d : Data) (ms : Members)
    → ((((front ++ comma_if later) ++ quoted key) ++ 58 ∷ []) ++ compact_text d) ++ members_text true ms ≡ front ++ members_text later (member key d ms)
member_more front later key d ms = in_a_row front (comma_if later) (quoted key) (58 ∷ []) (compact_text d) (members_text true ms)

plain_letters : (r : Bool) (w : Bool) (t : Bool) (g : Bool) → escape (rights_text (record { read = r; write = w; take = t; grant = g })) ≡ rights_text (record { read = r; write = w; take = t; grant = g })
unfolding escape_byte
plain_letters false false false false = refl
plain_letters false false false true = refl
plain_letters false false true false = refl
plain_letters false false true true = refl
plain_letters false true false false = refl
plain_letters false true false true = refl
plain_letters false true true false = refl
plain_letters false true true true = refl
plain_letters true false false false = refl
plain_letters true false false true = refl
plain_letters true false true false = refl
plain_letters true false true true = refl
plain_letters true true false false = refl
plain_letters true true false true = refl
plain_letters true true true false = refl
plain_letters true true true true = refl

-- rights need no escapes
pub letters_are_plain : (rights : Letters) → escape (rights_text rights) ≡ rights_text rights
letters_are_plain rights = plain_letters rights.read rights.write rights.take rights.grant

-- letters that are written one by one
pub letters_in_a_row : (front : List ℕ) (rights : Letters)
    → (((((front ++ 34 ∷ []) ++ byte_if rights.read 114) ++ byte_if rights.write 119) ++ byte_if rights.take 116) ++ byte_if rights.grant 103) ++ 34 ∷ [] ≡ front ++ quoted (rights_text rights)
letters_in_a_row front rights =
    let r = byte_if rights.read 114 in
    let w = byte_if rights.write 119 in
    let t = byte_if rights.take 116 in
    let g = byte_if rights.grant 103 in
    let flat : (((((front ++ 34 ∷ []) ++ r) ++ w) ++ t) ++ g) ++ 34 ∷ [] ≡ front ++ 34 ∷ ((((r ++ w) ++ t) ++ g) ++ 34 ∷ []) = simp append_assoc in
    let spelled : ((r ++ w) ++ t) ++ g ≡ rights_text rights = refl in
    flat ∙ ap (λ l. front ++ 34 ∷ (l ++ 34 ∷ [])) (spelled ∙ sym (letters_are_plain rights))

-- the digits of a number of one, of two, of three and of four
pub one_digit : (n : ℕ) → n < 10 → decimal n ≡ (48 + n % 10) ∷ []
one_digit n small = decimal_digit n small ∙ ap (λ m. (48 + m) ∷ []) (omega arith)

pub two_digits : (n : ℕ) → 10 ≤ n → n < 100 → decimal n ≡ (48 + n / 10 % 10) ∷ (48 + n % 10) ∷ []
two_digits n big small = decimal_step n big (omega arith) ∙ ap (λ l. l ++ (48 + n % 10) ∷ []) (one_digit (n / 10) (omega arith))

pub three_digits : (n : ℕ) → 100 ≤ n → n < 1000 → decimal n ≡ (48 + n / 10 / 10 % 10) ∷ (48 + n / 10 % 10) ∷ (48 + n % 10) ∷ []
three_digits n big small = decimal_step n (omega arith) (omega arith) ∙ ap (λ l. l ++ (48 + n % 10) ∷ []) (two_digits (n / 10) (omega arith) (omega arith))

pub four_digits : (n : ℕ) → 1000 ≤ n → n < 10000
    → decimal n ≡ (48 + n / 10 / 10 / 10 % 10) ∷ (48 + n / 10 / 10 % 10) ∷ (48 + n / 10 % 10) ∷ (48 + n % 10) ∷ []
four_digits n big small = decimal_step n (omega arith) (omega arith) ∙ ap (λ l. l ++ (48 + n % 10) ∷ []) (three_digits (n / 10) (omega arith) (omega arith))

-- bytes that are appended, in other words
pub appended : {E : Type 0} (r : Result (Unit {0}) E) (front other : List ℕ) {new bytes said : List ℕ} → new ≡ (if is_ok r then front ++ bytes else other) → bytes ≡ said → OnOk r (new ≡ front ++ said)
appended (Ok done) front other is same = is ∙ ap (λ l. front ++ l) same
appended (Err fault) front other is same = tt

-- what is put after the same, in other words
pub said_as : {E : Type 0} (r : Result (Unit {0}) E) (new front : List ℕ) {said other : List ℕ} → said ≡ other → OnOk r (new ≡ front ++ said) → OnOk r (new ≡ front ++ other)
said_as (Ok done) new front same is = is ∙ ap (λ l. front ++ l) same
said_as (Err fault) new front same is = tt

-- what a writer of JSON prints for one text
pub text_told : (lead s : List ℕ) (ts : List Token) → ts ≡ token.string s ∷ [] → lead ++ print ts ≡ lead ++ quoted s
text_told lead s ts is = ap (λ l. lead ++ print l) is ∙ ap (λ l. lead ++ l) (print-outline (string s))
