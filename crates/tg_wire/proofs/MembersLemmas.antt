-- The members of a flat object, and the last one of each key.
use Rattle.std.proofs.Common.{◌≡◌, ◌==◌, ℕ, zero, suc, ◌*◌, ◌-◌, ◌^◌, ◌≤◌, ◌<◌, max, Bool, true, false, true≢false, not, ◌&&◌, cond, List, [], ◌∷◌, ◌++◌, Option, Some, None, length, get_or, set, bytes_eq, bit_and, bit_or, eqb-true, eq-eqb, ne_eqb, get_or-set_same, get_or-set_other, refl, sym, ap, ◌∙◌, zero-mul, arith}
use Rattle.std.specs.Int.{bit_at}
use Rattle.std.specs.List.{list_all}
use Rattle.std.proofs.lemmas.List.Folds.{list_all-append}
use Rattle.std.proofs.lemmas.Nat.{pow_pos}
use Rattle.std.proofs.lemmas.Nat.Bits.{and_pow, bit_at_or, bit_at-lt, bit_at-pow_same}
use Rattle.serde_json.specs.Data.{Data, Members, no_members, put}
use Rattle.serde_json.specs.Find.{get_member}
use Rattle.serde_json.proofs.Views.{get_member-put, get_member-put_other}
use Rattle.tg_wire.specs.Inner.Keys.{is_in_set, key_bit, key_place, key_text, key_texts}
use Rattle.tg_wire.specs.Inner.Members.{AreInSet, LeadToLast, counted_on, last_count, plain_data, put_all}
use Rattle.tg_wire.specs.declared.key.Key.{Key}
use Rattle.tg_wire.specs.declared.key.Key.TheVariants as key
use Rattle.tg_wire.specs.declared.member.Member.{Member}
use Rattle.tg_wire.proofs.KnownLemmas.{of_key}

-- ---- keys and their places

abbrev keys : List Key
keys = key.Op ∷ key.Seat ∷ key.Agent ∷ key.Over ∷ key.From ∷ key.To ∷ key.At ∷ key.Rights ∷ key.Kind ∷ key.Text ∷ key.Name ∷ key.Actor ∷ key.Principals ∷ key.Edges ∷ key.Next ∷ key.Slots ∷ key.Cells ∷ []

abbrev place_among : List Key → List ℕ → ℕ
place_among [] text = 0
place_among (k ∷ ks) text = cond (bytes_eq text (key_text k)) 0 (suc (place_among ks text))

text_at_place : (k : Key) → get_or (key_texts keys) (key_place k) [] ≡ key_text k
text_at_place = of_key (λ k. get_or (key_texts keys) (key_place k) [] ≡ key_text k) (refl, refl, refl, refl, refl, refl, refl, refl, refl, refl, refl, refl, refl, refl, refl, refl, refl)

place_of_text : (k : Key) → place_among keys (key_text k) ≡ key_place k
place_of_text = of_key (λ k. place_among keys (key_text k) ≡ key_place k) (refl, refl, refl, refl, refl, refl, refl, refl, refl, refl, refl, refl, refl, refl, refl, refl, refl)

pub place_below : (k : Key) → key_place k < 17
place_below = of_key (λ k. key_place k < 17) (omega arith, omega arith, omega arith, omega arith, omega arith, omega arith, omega arith, omega arith, omega arith, omega arith, omega arith, omega arith, omega arith, omega arith, omega arith, omega arith, omega arith)

same_text : (a b : Key) → (key_place a == key_place b) ≡ true → key_text a ≡ key_text b
same_text a b is = sym (text_at_place a) ∙ ap (λ n. get_or (key_texts keys) n []) (eqb-true (key_place a) (key_place b) is) ∙ text_at_place b

other_text : (a b : Key) → (key_place a == key_place b) ≡ false → key_text b ≡ key_text a → ⊥
other_text a b is same =
    let places : key_place a ≡ key_place b = sym (place_of_text a) ∙ ap (place_among keys) (sym same) ∙ place_of_text b in
    true≢false (sym (eq-eqb (key_place a) (key_place b) places) ∙ is)

-- ---- one more member

last_more : (key : Key) (ms : List Member) (m : Member) → (key_place m.key == key_place key) ≡ true → last_count key (ms ++ m ∷ []) ≡ suc (length ms)
last_more key [] m is = ap (counted_on 0) is
last_more key (x ∷ ms) m is = ap (λ n. counted_on n (key_place x.key == key_place key)) (last_more key ms m is)

last_stays : (key : Key) (ms : List Member) (m : Member) → (key_place m.key == key_place key) ≡ false → last_count key (ms ++ m ∷ []) ≡ last_count key ms
last_stays key [] m is = ap (counted_on 0) is
last_stays key (x ∷ ms) m is = ap (λ n. counted_on n (key_place x.key == key_place key)) (last_stays key ms m is)

lead_at : (b : Bool) (counts : List ℕ) (ms : List Member) (m : Member) (key : Key) → (key_place m.key == key_place key) ≡ b → key_place m.key < length counts → LeadToLast counts ms
    → get_or (set counts (key_place m.key) (suc (length ms))) (key_place key) 0 ≡ last_count key (ms ++ m ∷ [])
lead_at true counts ms m key is within lead =
    ap (λ n. get_or (set counts (key_place m.key) (suc (length ms))) n 0) (sym (eqb-true (key_place m.key) (key_place key) is))
    ∙ get_or-set_same counts (key_place m.key) (suc (length ms)) 0 within ∙ sym (last_more key ms m is)
lead_at false counts ms m key is within lead =
    get_or-set_other counts (key_place m.key) (key_place key) (suc (length ms)) 0 (λ e. true≢false (sym (eq-eqb (key_place m.key) (key_place key) (sym e)) ∙ is))
    ∙ lead key ∙ sym (last_stays key ms m is)

pub lead_more : (counts : List ℕ) (ms : List Member) (m : Member) → key_place m.key < length counts → LeadToLast counts ms
    → LeadToLast (set counts (key_place m.key) (suc (length ms))) (ms ++ m ∷ [])
lead_more counts ms m within lead key = lead_at _ counts ms m key refl within lead

-- ---- what is found

pub last_count-le : (key : Key) (ms : List Member) → last_count key ms ≤ length ms
last_count-le key [] = omega arith
last_count-le key (m ∷ ms) = counted_le (last_count key ms) (length ms) _ (last_count-le key ms)
  where
    counted_le : (n l : ℕ) (b : Bool) → n ≤ l → counted_on n b ≤ suc l
    counted_le zero l true h = omega arith
    counted_le zero l false h = omega arith
    counted_le (suc n) l b h = omega (arith, h)

-- the value of the member of a number counted from 1; this one for 0
abbrev pub counted : Member → List Member → ℕ → Option Data → Option Data
counted d ms zero else = else
counted d ms (suc n) else = Some (plain_data (get_or ms n d).value)

found_at : (d : Member) (key : Key) (m : Member) (ms : List Member) (found : Members) (n : ℕ) (b : Bool) → last_count key ms ≡ n → (key_place m.key == key_place key) ≡ b
    → get_member (key_text key) (put_all ms (put (key_text m.key) (plain_data m.value) found)) ≡ counted d ms n (get_member (key_text key) (put (key_text m.key) (plain_data m.value) found))
    → get_member (key_text key) (put_all ms (put (key_text m.key) (plain_data m.value) found)) ≡ counted d (m ∷ ms) (counted_on n b) (get_member (key_text key) found)
found_at d key m ms found (suc n) b count is later = later
found_at d key m ms found zero true count is later =
    later ∙ ap (λ k. get_member k (put (key_text m.key) (plain_data m.value) found)) (sym (same_text m.key key is)) ∙ get_member-put (key_text m.key) (plain_data m.value) found
found_at d key m ms found zero false count is later =
    later ∙ get_member-put_other (key_text key) (key_text m.key) (plain_data m.value) found (other_text m.key key is)

found_counted : (d : Member) (key : Key) (ms : List Member) (found : Members) → get_member (key_text key) (put_all ms found) ≡ counted d ms (last_count key ms) (get_member (key_text key) found)
found_counted d key [] found = refl
found_counted d key (m ∷ ms) found = found_at d key m ms found _ _ refl refl (found_counted d key ms (put (key_text m.key) (plain_data m.value) found))

pub found_none : (key : Key) (ms : List Member) → 0 ≡ last_count key ms → None ≡ get_member (key_text key) (put_all ms no_members)
found_none key [] is = refl
found_none key (m ∷ ms) is = ap (λ n. counted m (m ∷ ms) n None) is ∙ sym (found_counted m key (m ∷ ms) no_members)

pub found_some : (d : Member) (key : Key) (ms : List Member) (count : ℕ) → count ≡ last_count key ms → 0 < count
    → Some (plain_data (get_or ms (count - 1) d).value) ≡ get_member (key_text key) (put_all ms no_members)
found_some d key ms zero is some = absurd (omega (arith, some))
found_some d key ms (suc n) is some =
    let before : suc n - 1 ≡ n = omega arith in
    ap (λ i. Some (plain_data (get_or ms i d).value)) before ∙ ap (λ k. counted d ms k None) is ∙ sym (found_counted d key ms no_members)

-- ---- sets of keys

bit_of : (k : Key) → key_bit k ≡ 2 ^ key_place k
bit_of = of_key (λ k. key_bit k ≡ 2 ^ key_place k) (refl, refl, refl, refl, refl, refl, refl, refl, refl, refl, refl, refl, refl, refl, refl, refl, refl)

bit_in : (s : ℕ) (k : Key) → bit_and s (key_bit k) ≡ bit_at s (key_place k) * 2 ^ key_place k
bit_in s k = ap (bit_and s) (bit_of k) ∙ and_pow s (key_place k)

in_from_bit : (s : ℕ) (k : Key) → bit_at s (key_place k) ≡ 1 → is_in_set s k ≡ true
in_from_bit s k is = ap not (ne_eqb _ 0 (λ (z : bit_and s (key_bit k) ≡ 0). absurd (omega (arith, pow_pos (key_place k), sym z ∙ bit_in s k ∙ ap (λ n. n * 2 ^ key_place k) is))))

bit_from_in : (s : ℕ) (k : Key) → is_in_set s k ≡ true → bit_at s (key_place k) ≡ 1
bit_from_in s k is = bit_is (bit_at s (key_place k)) (bit_at-lt s (key_place k)) (λ z. true≢false (sym is ∙ ap not (eq-eqb _ 0 (bit_in s k ∙ ap (λ n. n * 2 ^ key_place k) z ∙ zero-mul (2 ^ key_place k)))))
  where
    bit_is : (b : ℕ) → b < 2 → (b ≡ 0 → ⊥) → b ≡ 1
    bit_is b small some = omega (arith, small, some)

in_wider : (mine known : ℕ) (k : Key) → bit_or mine known ≡ known → is_in_set mine k ≡ true → is_in_set known k ≡ true
in_wider mine known k wider is =
    let at : bit_at known (key_place k) ≡ max (bit_at mine (key_place k)) (bit_at known (key_place k)) = ap (λ s. bit_at s (key_place k)) (sym wider) ∙ bit_at_or mine known (key_place k) in
    in_from_bit known k (omega (arith, at, bit_from_in mine k is, bit_at-lt known (key_place k)))

both : (a b : Bool) → (a && b) ≡ true → (a ≡ true) × (b ≡ true)
both true b is = (refl, is)
both false b is = absurd (true≢false (sym is))

all_kept : (P Q : Key → Bool) (ms : List Member) → ((k : Key) → P k ≡ true → Q k ≡ true) → list_all (λ m. P m.key) ms ≡ true → list_all (λ m. Q m.key) ms ≡ true
all_kept P Q [] each are = refl
all_kept P Q (m ∷ ms) each are =
    let parts = both (P m.key) (list_all (λ m. P m.key) ms) are in
    ap (λ b. b && list_all (λ m. Q m.key) ms) (each m.key parts.0) ∙ all_kept P Q ms each parts.1

pub all_in_wider : (mine known : ℕ) (ms : List Member) → bit_or mine known ≡ known → AreInSet mine ms → list_all (λ m. is_in_set known m.key) ms ≡ true
all_in_wider mine known ms wider are = all_kept (is_in_set mine) (is_in_set known) ms (λ k is. in_wider mine known k wider is) are

still_in : (s other : ℕ) (k : Key) → is_in_set s k ≡ true → is_in_set (bit_or s other) k ≡ true
still_in s other k is =
    in_from_bit (bit_or s other) k (omega (arith, bit_at_or s other (key_place k), bit_from_in s k is, bit_at-lt other (key_place k)))

now_in : (s : ℕ) (k : Key) → is_in_set (bit_or s (key_bit k)) k ≡ true
now_in s k =
    let own : bit_at (key_bit k) (key_place k) ≡ 1 = ap (λ b. bit_at b (key_place k)) (bit_of k) ∙ bit_at-pow_same (key_place k) in
    in_from_bit (bit_or s (key_bit k)) k (omega (arith, bit_at_or s (key_bit k) (key_place k), own, bit_at-lt s (key_place k)))

pub are_in_more : (s : ℕ) (ms : List Member) (m : Member) → AreInSet s ms → AreInSet (bit_or s (key_bit m.key)) (ms ++ m ∷ [])
are_in_more s ms m are =
    list_all-append (λ x. is_in_set (bit_or s (key_bit m.key)) x.key) ms (m ∷ [])
    ∙ ap (λ b. b && list_all (λ x. is_in_set (bit_or s (key_bit m.key)) x.key) (m ∷ []))
    (all_kept (is_in_set s) (is_in_set (bit_or s (key_bit m.key))) ms (λ k is. still_in s (key_bit m.key) k is) are)
    ∙ ap (λ b. b && true) (now_in s m.key)
