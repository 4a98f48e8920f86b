-- The table that linked slots show.
use Rattle.std.proofs.Common.{◌≡◌, ℕ, zero, suc, ◌-◌, ◌<◌, ◌≤◌, List, [], ◌∷◌, ◌++◌, length, Option, None, sym, ◌∙◌, ap, refl, set, get_or, arith, length-append, length-set}
use Rattle.std.proofs.lemmas.List.{get_or-map, length-map, map-set, set-append_left}
use Rattle.tg_slots.specs.Inner.Linked.{Linked, at, blank, occupant_at, occupants}
use Rattle.tg_slots.specs.declared.slots.Occupant.{Occupant}
use Rattle.tg_slots.specs.declared.slots.Slots.TheInside.{Inside}
use Rattle.tg_slots.specs.Promise.Table.{Table, IsSound, if_free, indices, nones}
use Rattle.tg_slots.specs.Inner.Chain.{walk}
use Rattle.tg_slots.specs.Inner.Inside.{links, table, table_of, Shows, IsInside}
use Rattle.tg_slots.proofs.TableLemmas.{at_most_length, grey_at_most, free_one-le, grey_one-le, if_grey}
use Rattle.tg_slots.proofs.FreshLemmas.{nones_length}
use Rattle.tg_slots.proofs.ChainLemmas.{walk_chain}

-- The lists of a sound table are no longer than the table.
free_fits : (t : Table) → IsSound t → length t.free ≤ length t.slots
free_fits t s = let most = at_most_length if_free free_one-le t.slots in let count = s.free_count in omega (arith, most, count)

grey_fits : (t : Table) → IsSound t → length t.grey ≤ length t.slots
grey_fits t s =
    let most = at_most_length if_grey grey_one-le t.slots in
    let some = grey_at_most t.grey t.slots s.grey_once (λ j h. (s.listed_grey j h).1) in
    omega (arith, most, some)

-- The slots that were used and the others are all slots.
pub slots_length : (size : ℕ) (es : List Linked) → length es ≤ size → length (occupants es ++ nones (size - length es)) ≡ size
slots_length size es fits = omega (arith, fits, length-append (occupants es) (nones (size - length es)), length-map es (λ (e : Linked). e.occupant), nones_length (size - length es))

-- What is shown is what the walks return.
pub shows_table : (size : ℕ) (es : List Linked) (free grey : ℕ) (t : Table) → Shows size es free grey t → table_of size es free grey ≡ t
shows_table size es free grey t k =
    let used = k.used in
    let fits : length (links es) ≤ size = omega (arith, used, length-map es (λ (e : Linked). e.link)) in
    let all : length t.slots ≡ size = sym (ap length k.slots) ∙ slots_length size es used in
    let short : length k.rest ≤ size = (let most = free_fits t k.sound in let listed = ap length k.listed in omega (arith, all, most, listed, length-append k.rest (indices (length es) (size - length es)))) in
    let grey_short : length t.grey ≤ size = (let most = grey_fits t k.sound in omega (arith, all, most)) in
    ap (λ (l : List (Option Occupant)). record { slots = l; free = walk size (links es) size free ++ indices (length es) (size - length es); grey = walk size (links es) size grey }) k.slots
    ∙ ap (λ (l : List ℕ). record { slots = t.slots; free = l; grey = walk size (links es) size grey }) (ap (λ (l : List ℕ). l ++ indices (length es) (size - length es)) (walk_chain size (links es) size free k.rest fits k.free short) ∙ sym k.listed)
    ∙ ap (λ (l : List ℕ). record { slots = t.slots; free = t.free; grey = l }) (walk_chain size (links es) size grey t.grey fits k.grey grey_short)

-- What the table has at an index.
pub slot_read : (es : List Linked) (n i : ℕ) → occupant_at es i ≡ get_or (occupants es ++ nones n) i None
slot_read [] zero i = refl
slot_read [] (suc n) zero = refl
slot_read [] (suc n) (suc i) = slot_read [] n i
slot_read (e ∷ es) n zero = refl
slot_read (e ∷ es) n (suc i) = slot_read es n i

-- Where a slot leads that was used.
pub link_read : (es : List Linked) (i end : ℕ) → i < length es → get_or (links es) i end ≡ (at es i).link
link_read es i end w = get_or-map (λ (e : Linked). e.link) es i blank end w

-- A slot that was used is written, or the next one is.
pub slots_set : (size : ℕ) (es : List Linked) (i : ℕ) (e : Linked) → i < length es → occupants (set es i e) ++ nones (size - length (set es i e)) ≡ set (occupants es ++ nones (size - length es)) i e.occupant
slots_set size es i e w =
    ap (λ (n : ℕ). occupants (set es i e) ++ nones (size - n)) (length-set es i e)
    ∙ ap (λ (l : List (Option Occupant)). l ++ nones (size - length es)) (map-set (λ (x : Linked). x.occupant) es i e)
    ∙ sym (set-append_left (occupants es) (nones (size - length es)) i e.occupant (omega (arith, w, length-map es (λ (x : Linked). x.occupant))))

more : (es : List Linked) (e : Linked) (n : ℕ) → occupants (es ++ e ∷ []) ++ nones n ≡ set (occupants es ++ nones (suc n)) (length es) e.occupant
more [] e n = refl
more (x ∷ es) e n = ap (λ (l : List (Option Occupant)). x.occupant ∷ l) (more es e n)

pub slots_more : (size : ℕ) (es : List Linked) (e : Linked) → length es < size → occupants (es ++ e ∷ []) ++ nones (size - length (es ++ e ∷ [])) ≡ set (occupants es ++ nones (size - length es)) (length es) e.occupant
slots_more size es e w =
    let long : length (es ++ e ∷ []) ≡ suc (length es) = omega (arith, length-append es (e ∷ [])) in
    let left : suc (size - suc (length es)) ≡ size - length es = omega arith in
    ap (λ (n : ℕ). occupants (es ++ e ∷ []) ++ nones (size - n)) long ∙ more es e (size - suc (length es)) ∙ ap (λ (n : ℕ). set (occupants es ++ nones n) (length es) e.occupant) left

-- There are as many slots as the table has, and no more free ones.
pub size_is : (s : Inside) → IsInside s → s.size ≡ length (table s).slots
size_is s k = sym (slots_length s.size s.entries.items k.shown.used)

pub count_fits : (s : Inside) → IsInside s → s.free_count ≤ 65536
count_fits s k =
    let most = free_fits (table s) k.shown.sound in
    let count = k.count in
    let size = k.size in
    let all = size_is s k in
    omega (arith, most, count, size, all)
