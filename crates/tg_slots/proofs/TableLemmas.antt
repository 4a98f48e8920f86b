-- What a change of one slot leaves of a sound table.
use Rattle.std.proofs.Common.{◌≡◌, ◌≢◌, ℕ, zero, suc, ◌<◌, ◌≤◌, List, [], ◌∷◌, length, Option, Some, None, inl, inr, sym, subst, ◌∙◌, ap, refl, arith, get_or, set, get_or-set_other, get_or-set_same, length-set, sum_by}
use Rattle.std.proofs.lemmas.Bool.{cases_eq, cases_lt}
use Rattle.std.proofs.lemmas.List.{get_or_past}
use Rattle.std.proofs.lemmas.List.Sums.{sum_by-set, sum_by-cons}
use Rattle.tg_lists.specs.Promise.Membership.{Contains, Distinct}
use Rattle.tg_slots.specs.declared.slots.Occupant.{Occupant}
use Rattle.tg_slots.specs.declared.colour.Colour.{Colour}
use Rattle.tg_slots.specs.declared.colour.Colour.TheVariants.{White, Grey, Black}
use Rattle.tg_slots.specs.Promise.Table.{Mark, Table, Free, Has, mark, mark_of, slot, coloured, recoloured, with_slot_text, if_free, IsSound}

-- one for a grey slot
abbrev pub grey_one : Mark → ℕ
grey_one Free = 0
grey_one (Has White) = 0
grey_one (Has Grey) = 1
grey_one (Has Black) = 0

abbrev pub if_grey : Option Occupant → ℕ
if_grey o = grey_one (mark_of o)

-- An occupied slot is one of the table.
pub occupied_within : (xs : List (Option Occupant)) (i : ℕ) (c : Colour) → mark_of (get_or xs i None) ≡ Has c → i < length xs
occupied_within [] i c e = absurd (cc)
occupied_within (x ∷ xs) zero c e = omega arith
occupied_within (x ∷ xs) (suc i) c e = let rest : i < length xs = occupied_within xs i c e in omega arith

pub within_table : (t : Table) (i : ℕ) → mark t i ≢ Free → i < length t.slots
within_table t i taken = elim (cases_lt i (length t.slots)) [ inl w ↦ w | inr past ↦ absurd (taken (ap mark_of (get_or_past t.slots i None past))) ]

pub mark_coloured : (o : Option Occupant) (c d : Colour) → mark_of o ≡ Has d → mark_of (coloured c o) ≡ Has c
mark_coloured None c d e = absurd (cc)
mark_coloured (Some o) c d e = refl

-- The mark at the slot that changed, and at another.
pub mark_here : (xs : List (Option Occupant)) (i : ℕ) (x : Option Occupant) → i < length xs → mark_of (get_or (set xs i x) i None) ≡ mark_of x
mark_here xs i x h = ap mark_of (get_or-set_same xs i x None h)

pub mark_there : (xs : List (Option Occupant)) (i j : ℕ) (x : Option Occupant) → j ≢ i → mark_of (get_or (set xs i x) j None) ≡ mark_of (get_or xs j None)
mark_there xs i j x h = ap mark_of (get_or-set_other xs i j x None h)

-- The sum of what each slot adds is at most the number of slots, if each adds at most one.
pub at_most_length : (f : Option Occupant → ℕ) → ((o : Option Occupant) → f o ≤ 1) → (xs : List (Option Occupant)) → sum_by f xs ≤ length xs
at_most_length f one [] = omega arith
at_most_length f one (x ∷ xs) = rw sum_by-cons (let rest = at_most_length f one xs in let here = one x in omega (arith, rest, here))

pub grey_one-le : (o : Option Occupant) → if_grey o ≤ 1
grey_one-le o = elim (mark_of o) as (λ m. grey_one m ≤ 1) [ Free ↦ omega arith | Has White ↦ omega arith | Has Grey ↦ omega arith | Has Black ↦ omega arith ]

pub free_one-le : (o : Option Occupant) → if_free o ≤ 1
free_one-le None = omega arith
free_one-le (Some o) = omega arith

pub if_free-occupied : (o : Option Occupant) (c : Colour) → mark_of o ≡ Has c → if_free o ≡ 0
if_free-occupied None c e = absurd (cc)
if_free-occupied (Some o) c e = refl

-- The counts after an occupied slot changed its colour.
pub free_count-set : (t : Table) (i : ℕ) (c d : Colour) → mark t i ≡ Has c → sum_by if_free (recoloured t i d) ≡ sum_by if_free t.slots
free_count-set t i c d w =
    let within : i < length t.slots = occupied_within t.slots i c w in
    let change = sum_by-set if_free t.slots i (coloured d (slot t i)) None within in
    let was : if_free (slot t i) ≡ 0 = if_free-occupied (slot t i) c w in
    let is : if_free (coloured d (slot t i)) ≡ 0 = if_free-occupied _ d (mark_coloured (slot t i) d c w) in
    omega (arith, change, was, is)

-- A list of grey indices without repeats is no longer than the number of grey slots.
pub grey_at_most : (l : List ℕ) (xs : List (Option Occupant)) → Distinct l → ((j : ℕ) → Contains l j → mark_of (get_or xs j None) ≡ Has Grey) → length l ≤ sum_by if_grey xs
grey_at_most [] xs d h = omega arith
grey_at_most (i ∷ l) xs d h =
    let grey : mark_of (get_or xs i None) ≡ Has Grey = h i (inl refl) in
    let change = sum_by-set if_grey xs i None None (occupied_within xs i Grey grey) in
    let was : if_grey (get_or xs i None) ≡ 1 = ap grey_one grey in
    let rest = grey_at_most l (set xs i None) d.1 (λ j g. mark_there xs i j None (λ is. d.0 (subst (λ (k : ℕ). Contains l k) is g)) ∙ h j (inr g)) in
    omega (arith, change, was, rest)

-- Another slot that is listed as grey stays so.
grey_stays : (t : Table) (i : ℕ) (d : Colour) → IsSound t → (j : ℕ) → Contains t.grey j → j ≢ i
    → (j < length (recoloured t i d)) × (mark_of (get_or (recoloured t i d) j None) ≡ Has Grey)
grey_stays t i d s j l other =
    let size : length (recoloured t i d) ≡ length t.slots = length-set t.slots i _ in
    let old = s.listed_grey j l in
    (omega arith, mark_there t.slots i j _ other ∙ old.1)

-- An occupied slot gets a colour, and these are then listed as grey.
sound-recoloured : (t : Table) (i : ℕ) (c d : Colour) (waiting : List ℕ) → IsSound t → mark t i ≡ Has c
    → ((j : ℕ) → Contains waiting j → (j < length (recoloured t i d)) × (mark_of (get_or (recoloured t i d) j None) ≡ Has Grey))
    → Distinct waiting → IsSound (record t { slots = recoloured t i d; grey = waiting })
sound-recoloured t i c d waiting s w listed once =
    let within : i < length t.slots = occupied_within t.slots i c w in
    let size : length (recoloured t i d) ≡ length t.slots = length-set t.slots i _ in
    let now : mark_of (get_or (recoloured t i d) i None) ≡ Has d = mark_here t.slots i _ within ∙ mark_coloured (slot t i) d c w in
    record {
      free_listed = λ j l f. elim (cases_eq j i) [
        | inl e ↦ absurd (let f' = subst (λ (k : ℕ). mark_of (get_or (recoloured t i d) k None) ≡ Free) e f in cc)
        | inr n ↦ s.free_listed j (omega arith) (sym (mark_there t.slots i j _ n) ∙ f)
      ];
      listed_free = λ j h.
          let old = s.listed_free j h in
          let other : j ≢ i = λ e. let f : mark t i ≡ Free = rw (← e) (old.1) in cc in
          (omega arith, mark_there t.slots i j _ other ∙ old.1);
      free_once = s.free_once;
      free_count = s.free_count ∙ sym (free_count-set t i c d w);
      listed_grey = listed;
      grey_once = once;
    }

-- A white slot that turns grey and is listed.
pub sound-push_grey : (t : Table) (i : ℕ) → IsSound t → mark t i ≡ Has White
    → IsSound (record t { slots = recoloured t i Grey; grey = i ∷ t.grey })
sound-push_grey t i s w =
    let within : i < length t.slots = occupied_within t.slots i White w in
    let size : length (recoloured t i Grey) ≡ length t.slots = length-set t.slots i _ in
    let now : mark_of (get_or (recoloured t i Grey) i None) ≡ Has Grey = mark_here t.slots i _ within ∙ mark_coloured (slot t i) Grey White w in
    let white : Contains t.grey i → ⊥ = λ l. let old = s.listed_grey i l in (cc) in
    sound-recoloured t i White Grey (i ∷ t.grey) s w
    (λ j h. elim h [
      | inl e ↦ (omega arith, rw e now)
      | inr l ↦ grey_stays t i Grey s j l (λ e. white (rw (← e) l))
    ])
    (white, s.grey_once)

-- A grey slot is no longer waiting.
pub sound-pop_grey : (t : Table) (i : ℕ) (rest : List ℕ) → IsSound t → t.grey ≡ i ∷ rest → IsSound (record t { grey = rest })
sound-pop_grey t i rest s e =
    let once : Distinct (i ∷ rest) = rw e at s.grey_once in
    record {
      free_listed = s.free_listed;
      listed_free = s.listed_free;
      free_once = s.free_once;
      free_count = s.free_count;
      listed_grey = λ j h. s.listed_grey j (rw e (inr h));
      grey_once = once.1;
    }

-- A black slot that turns white, or a grey one out of the list that turns black.
pub sound-painted : (t : Table) (i : ℕ) (c d : Colour) → IsSound t → mark t i ≡ Has c → (Contains t.grey i → ⊥)
    → IsSound (record t { slots = recoloured t i d })
sound-painted t i c d s w out =
    sound-recoloured t i c d t.grey s w (λ j l. grey_stays t i d s j l (λ e. out (rw (← e) l))) s.grey_once

if_free-free : (o : Option Occupant) → mark_of o ≡ Free → if_free o ≡ 1
if_free-free None e = refl
if_free-free (Some o) e = absurd (cc)

-- The first free slot is taken.
pub sound-take_free : (t : Table) (i : ℕ) (rest : List ℕ) (o : Occupant) → IsSound t → t.free ≡ i ∷ rest → grey_one (Has o.colour) ≡ 0
    → IsSound (record t { slots = set t.slots i (Some o); free = rest })
sound-take_free t i rest o s e pale =
    let once : Distinct (i ∷ rest) = subst Distinct e s.free_once in
    let listed : (j : ℕ) → Contains (i ∷ rest) j → Contains t.free j = λ j h. subst (λ (l : List ℕ). Contains l j) (sym e) h in
    let first = s.listed_free i (listed i (inl refl)) in
    let within : i < length t.slots = first.0 in
    let free : mark t i ≡ Free = first.1 in
    let size : length (set t.slots i (Some o)) ≡ length t.slots = length-set t.slots i _ in
    let now : mark_of (get_or (set t.slots i (Some o)) i None) ≡ Has o.colour = mark_here t.slots i (Some o) within in
    let change = sum_by-set if_free t.slots i (Some o) None within in
    let was : if_free (slot t i) ≡ 1 = if_free-free (slot t i) free in
    record {
      free_listed = λ j l f. elim (cases_eq j i) [
        | inl is ↦ absurd (let f' = subst (λ (k : ℕ). mark_of (get_or (set t.slots i (Some o)) k None) ≡ Free) is f in cc)
        | inr n ↦ elim (subst (λ (x : List ℕ). Contains x j) e (s.free_listed j (omega arith) (sym (mark_there t.slots i j _ n) ∙ f))) [ inl here ↦ absurd (n here) | inr there ↦ there ]
      ];
      listed_free = λ j h.
          let old = s.listed_free j (listed j (inr h)) in
          let other : j ≢ i = λ is. once.0 (subst (λ (k : ℕ). Contains rest k) is h) in
          (omega arith, mark_there t.slots i j _ other ∙ old.1);
      free_once = once.1;
      free_count = (let c : length (i ∷ rest) ≡ sum_by if_free t.slots = subst (λ (l : List ℕ). length l ≡ sum_by if_free t.slots) e s.free_count in omega (arith, c, change, was));
      listed_grey = λ j l.
          let old = s.listed_grey j l in
          let other : j ≢ i = λ is. let f : mark t i ≡ Has Grey = subst (λ (k : ℕ). mark t k ≡ Has Grey) is old.1 in cc in
          (omega arith, mark_there t.slots i j _ other ∙ old.1);
      grey_once = s.grey_once;
    }

-- A white slot is freed, in front of the free list.
pub sound-give_back : (t : Table) (i : ℕ) → IsSound t → mark t i ≡ Has White → IsSound (record t { slots = set t.slots i None; free = i ∷ t.free })
sound-give_back t i s w =
    let within : i < length t.slots = occupied_within t.slots i White w in
    let size : length (set t.slots i None) ≡ length t.slots = length-set t.slots i None in
    let now : mark_of (get_or (set t.slots i None) i None) ≡ Free = mark_here t.slots i None within in
    let change = sum_by-set if_free t.slots i None None within in
    let was : if_free (slot t i) ≡ 0 = if_free-occupied (slot t i) White w in
    let count = s.free_count in
    record {
      free_listed = λ j l f. elim (cases_eq j i) [ inl e ↦ inl e | inr n ↦ inr (s.free_listed j (omega arith) (sym (mark_there t.slots i j None n) ∙ f)) ];
      listed_free = λ j h. elim h [
        | inl e ↦ (omega arith, rw e now)
        | inr l ↦
            let old = s.listed_free j l in
            let other : j ≢ i = λ e. let f : mark t i ≡ Free = rw (← e) (old.1) in (cc) in
            (omega arith, mark_there t.slots i j None other ∙ old.1)
      ];
      free_once = (λ h. let f = (s.listed_free i h).1 in (cc), s.free_once);
      free_count = omega (arith, change, was, count);
      listed_grey = λ j h.
          let old = s.listed_grey j h in
          let other : j ≢ i = λ e. let f : mark t i ≡ Has Grey = rw (← e) (old.1) in (cc) in
          (omega arith, mark_there t.slots i j None other ∙ old.1);
      grey_once = s.grey_once;
    }

mark_text : (x : List ℕ) (o : Option Occupant) → mark_of (with_slot_text x o) ≡ mark_of o
mark_text x None = refl
mark_text x (Some o) = refl

if_free-text : (x : List ℕ) (o : Option Occupant) → if_free (with_slot_text x o) ≡ if_free o
if_free-text x None = refl
if_free-text x (Some o) = refl

-- A text is replaced, and no mark changes.
pub sound-set_text : (t : Table) (i : ℕ) (x : List ℕ) → IsSound t → i < length t.slots → IsSound (record t { slots = set t.slots i (with_slot_text x (slot t i)) })
sound-set_text t i x s within =
    let new : List (Option Occupant) = set t.slots i (with_slot_text x (slot t i)) in
    let size : length (set t.slots i (with_slot_text x (slot t i))) ≡ length t.slots = length-set t.slots i _ in
    let here : mark_of (get_or (set t.slots i (with_slot_text x (slot t i))) i None) ≡ mark t i = mark_here t.slots i _ within ∙ mark_text x (slot t i) in
    let same = λ (j : ℕ). let m : mark_of (get_or (set t.slots i (with_slot_text x (slot t i))) j None) ≡ mark t j =
    elim (cases_eq j i) [
      | inl e ↦ subst (λ (k : ℕ). mark_of (get_or (set t.slots i (with_slot_text x (slot t i))) k None) ≡ mark t k) (sym e) here
      | inr n ↦ mark_there t.slots i j _ n
    ] in m in
    let change = sum_by-set if_free t.slots i (with_slot_text x (slot t i)) None within in
    let count = s.free_count in
    record {
      free_listed = λ j l f. s.free_listed j (omega arith) (sym (same j) ∙ f);
      listed_free = λ j h. let old = s.listed_free j h in (omega arith, same j ∙ old.1);
      free_once = s.free_once;
      free_count = omega (arith, change, count, if_free-text x (slot t i));
      listed_grey = λ j h. let old = s.listed_grey j h in (omega arith, same j ∙ old.1);
      grey_once = s.grey_once;
    }
