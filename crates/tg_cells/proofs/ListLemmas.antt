-- Lists of edges as rows of their cells; one owner's list is replaced: what is promised of all lists still holds.
use Rattle.std.proofs.Common.{◌≡◌, ℕ, zero, suc, ◌+◌, ◌-◌, ◌<◌, ◌≤◌, List, [], ◌∷◌, ◌++◌, length, inl, inr, sym, ◌∙◌, subst, ap, refl, map, set, arith, length-append, get_or-set_same, get_or-set_other, sum_by, false}
use Rattle.std.proofs.lemmas.Bool.{cases_eq}
use Rattle.std.proofs.lemmas.List.{map-set, set-get_or}
use Rattle.std.proofs.lemmas.List.Sums.{sum_by-set}
use Rattle.tg_lists.specs.Promise.Membership.{Contains, Distinct}
use Rattle.tg_lists.proofs.MembershipLemmas.{contains_middle, contains_apart, contains_around, map_append, distinct_around, contains_map}
use Rattle.tg_rights.specs.Promise.Letters.{Letters, is_none}
use Rattle.tg_index.specs.declared.buckets.Link.{Link}
use Rattle.tg_index.specs.Promise.Rows.{row, first_of, IsUnheld, AreRows}
pub use Rattle.tg_lists.proofs.MembershipLemmas.{contains_apart}
pub use Rattle.tg_index.proofs.RowLemmas.{held_within}
use Rattle.tg_cells.specs.Promise.Lists.{Edge, CellLists, owned, cells, edge_serials, first_cell, Stands, HasNone, IsCells, IsUnowned}
use Rattle.tg_cells.specs.Inner.Inside.{rows_of}

-- The row of a list, and where a linked cell stands in it.
pub row_is : (lists : List (List Edge)) (i : ℕ) → row (map cells lists) i ≡ cells (owned lists i)
row_is [] i = refl
row_is (es ∷ lists) zero = refl
row_is (es ∷ lists) (suc i) = row_is lists i

pub row_at : (lists : List (List Edge)) (n i : ℕ) (p r : List Edge) (e : Edge) → Stands lists n i p e r → row (map cells lists) i ≡ cells p ++ n ∷ cells r
row_at lists n i p r e st = row_is lists i ∙ ap cells st.is ∙ map_append (λ (x : Edge). x.cell) p (e ∷ r) ∙ ap (λ (m : ℕ). cells p ++ m ∷ cells r) st.here

pub in_row : (lists : List (List Edge)) (i : ℕ) (e : Edge) → Contains (owned lists i) e → Contains (row (map cells lists) i) e.cell
in_row lists i e h = subst (λ (l : List ℕ). Contains l e.cell) (sym (row_is lists i)) (contains_map (λ (x : Edge). x.cell) (owned lists i) e h)

pub first_cell_is : (es : List Edge) → first_of (cells es) ≡ first_cell es
first_cell_is [] = refl
first_cell_is (e ∷ es) = refl

-- A cell in no row is in nobody's list.
pub fresh_of : (lists : List (List Edge)) (n : ℕ) → IsUnheld (map cells lists) n → IsUnowned lists n
fresh_of lists n unheld i e h same = unheld i (subst (λ (m : ℕ). Contains (row (map cells lists) i) m) same (in_row lists i e h))

-- The rows of lists of which one has got a cell in front, or has lost one.
pub rows_link : (lists : List (List Edge)) (i : ℕ) (e : Edge) → set (map cells lists) i (e.cell ∷ row (map cells lists) i) ≡ map cells (set lists i (e ∷ owned lists i))
rows_link lists i e = ap (λ (l : List ℕ). set (map cells lists) i (e.cell ∷ l)) (row_is lists i) ∙ sym (map-set cells lists i (e ∷ owned lists i))

pub rows_unlink : (lists : List (List Edge)) (i : ℕ) (p r : List Edge) → set (map cells lists) i (cells p ++ cells r) ≡ map cells (set lists i (p ++ r))
rows_unlink lists i p r = ap (λ (l : List ℕ). set (map cells lists) i l) (sym (map_append (λ (x : Edge). x.cell) p r)) ∙ sym (map-set cells lists i (p ++ r))

-- An owner of an edge is one of the owners.
pub owner_within : (v : CellLists) (n i : ℕ) (p r : List Edge) (e : Edge) → Stands v.lists n i p e r → i < length v.lists
owner_within v n i p r e st = held_within v.lists i e (subst (λ (l : List Edge). Contains l e) (sym st.is) (contains_middle p r e))

-- What has to hold of a list that takes the place of another, with this many cells free then.
record Replaces (v : CellLists) (i : ℕ) (es : List Edge) (count : ℕ) : Type 0 where
  within : i < length v.lists
  serial_once : Distinct (edge_serials es)
  labelled : (e : Edge) → Contains es e → is_none e.rights ≡ false
  whole : length es + count ≡ length (owned v.lists i) + v.free

sound-replaced : (v : CellLists) (i : ℕ) (es : List Edge) (count : ℕ) (ls : List Link) → IsCells v → AreRows (rows_of ls (record v { lists = set v.lists i es; free = count })) → Replaces v i es count → IsCells (record v { lists = set v.lists i es; free = count })
sound-replaced v i es count ls k rows r = record {
  cell_once = λ j. subst (λ (l : List ℕ). Distinct l) (row_is (set v.lists i es) j) (rows.once j);
  one_owner = λ j m e f he hf same. rows.one_row j m e.cell (in_row (set v.lists i es) j e he) (subst (λ (n : ℕ). Contains (row (map cells (set v.lists i es)) m) n) (sym same) (in_row (set v.lists i es) m f hf));
  serial_once = λ j. each j (λ (l : List Edge). Distinct (edge_serials l)) r.serial_once (k.serial_once j);
  labelled = λ j. each j (λ (l : List Edge). (e : Edge) → Contains l e → is_none e.rights ≡ false) r.labelled (k.labelled j);
  whole = (let change = sum_by-set length v.lists i es [] r.within in let all = k.whole in let now = r.whole in omega (arith, change, all, now));
} where
  each : (j : ℕ) (P : List Edge → Type 0) → P es → P (owned v.lists j) → P (owned (set v.lists i es) j)
  each j P new old = elim (cases_eq j i) [
    | inl a ↦ subst P (sym (ap (λ (n : ℕ). owned (set v.lists i es) n) a ∙ get_or-set_same v.lists i es [] r.within)) new
    | inr o ↦ subst P (sym (get_or-set_other v.lists i j es [] o)) old
  ]

-- A serial that no edge has is none of the list's.
has_none : (es : List Edge) (n : ℕ) → HasNone es n → Contains (edge_serials es) n → ⊥
has_none [] n h m = m
has_none (e ∷ es) n h m = elim m [ inl is ↦ h e (inl refl) (sym is) | inr rest ↦ has_none es n (λ x y. h x (inr y)) rest ]

-- A free cell is put in front.
pub sound-link : (v : CellLists) (i : ℕ) (e : Edge) (ls : List Link) → IsCells v → AreRows (rows_of ls (record v { lists = set v.lists i (e ∷ owned v.lists i); free = v.free - 1 })) → i < length v.lists → HasNone (owned v.lists i) e.serial → is_none e.rights ≡ false → 1 ≤ v.free
    → IsCells (record v { lists = set v.lists i (e ∷ owned v.lists i); free = v.free - 1 })
sound-link v i e ls k rows w none some more = sound-replaced v i (e ∷ owned v.lists i) (v.free - 1) ls k rows (record {
  within = w;
  serial_once = (has_none (owned v.lists i) e.serial none, k.serial_once i);
  labelled = λ x h. elim h [ inl is ↦ subst (λ (y : Edge). is_none y.rights ≡ false) (sym is) some | inr old ↦ k.labelled i x old ];
  whole = omega arith;
})

-- A cell leaves its list, and is free.
pub sound-unlink : (v : CellLists) (n i : ℕ) (p r : List Edge) (e : Edge) (ls : List Link) → IsCells v → AreRows (rows_of ls (record v { lists = set v.lists i (p ++ r); free = v.free + 1 })) → Stands v.lists n i p e r → IsCells (record v { lists = set v.lists i (p ++ r); free = v.free + 1 })
sound-unlink v n i p r e ls k rows st =
    let serials_split : Distinct (edge_serials p ++ e.serial ∷ edge_serials r) = subst (λ (l : List ℕ). Distinct l) (ap edge_serials st.is ∙ map_append (λ (x : Edge). x.serial) p (e ∷ r)) (k.serial_once i) in
    let size : length (owned v.lists i) ≡ length (p ++ e ∷ r) = ap length st.is in
    sound-replaced v i (p ++ r) (v.free + 1) ls k rows (record {
      within = owner_within v n i p r e st;
      serial_once = subst (λ (l : List ℕ). Distinct l) (sym (map_append (λ (x : Edge). x.serial) p r)) (distinct_around (edge_serials p) (edge_serials r) e.serial serials_split).0;
      labelled = λ x h. k.labelled i x (subst (λ (l : List Edge). Contains l x) (sym st.is) (contains_around p r e x h));
      whole = omega (arith, size, length-append p r, length-append p (e ∷ r));
    })

-- A cell gets another label.
abbrev pub relabelled : List Edge → Edge → Letters → List Edge → List Edge
relabelled p e w r = p ++ record e { rights = w } ∷ r

-- Neither cells nor serials change.
pub rights_stay : (f : Edge → ℕ) (p r : List Edge) (e : Edge) (w : Letters) → f (record e { rights = w }) ≡ f e → map f (relabelled p e w r) ≡ map f (p ++ e ∷ r)
rights_stay f p r e w same = map_append f p (record e { rights = w } ∷ r) ∙ ap (λ (n : ℕ). map f p ++ n ∷ map f r) same ∙ sym (map_append f p (e ∷ r))

pub rows_rights : (lists : List (List Edge)) (n i : ℕ) (p r : List Edge) (e : Edge) (w : Letters) → Stands lists n i p e r → map cells lists ≡ map cells (set lists i (relabelled p e w r))
rows_rights lists n i p r e w st =
    sym (map-set cells lists i (relabelled p e w r) ∙ ap (λ (l : List ℕ). set (map cells lists) i l) (rights_stay (λ (x : Edge). x.cell) p r e w refl ∙ ap cells (sym st.is) ∙ sym (row_is lists i))
    ∙ set-get_or (map cells lists) i [])

pub sound-rights : (v : CellLists) (n i : ℕ) (p r : List Edge) (e : Edge) (w : Letters) (ls : List Link) → IsCells v → AreRows (rows_of ls (record v { lists = set v.lists i (relabelled p e w r) })) → Stands v.lists n i p e r → is_none w ≡ false
    → IsCells (record v { lists = set v.lists i (relabelled p e w r) })
sound-rights v n i p r e w ls k rows st some =
    let size : length (owned v.lists i) ≡ length (p ++ e ∷ r) = ap length st.is in
    sound-replaced v i (relabelled p e w r) v.free ls k rows (record {
      within = owner_within v n i p r e st;
      serial_once = subst (λ (l : List ℕ). Distinct l) (ap edge_serials st.is ∙ sym (rights_stay (λ (x : Edge). x.serial) p r e w refl)) (k.serial_once i);
      labelled = λ x h. elim (contains_apart p r (record e { rights = w }) x h) [
        | inl is ↦ subst (λ (y : Edge). is_none y.rights ≡ false) (sym is) some
        | inr old ↦ k.labelled i x (subst (λ (l : List Edge). Contains l x) (sym st.is) (contains_around p r e x old))
      ];
      whole = omega (arith, size, length-append p (record e { rights = w } ∷ r), length-append p (e ∷ r));
    })

-- Empty lists.
pub sound-empty : (v : CellLists) → ((i : ℕ) → owned v.lists i ≡ []) → sum_by length v.lists + v.free ≡ v.size → IsCells v
sound-empty v none whole = record {
  cell_once = λ i. subst (λ (l : List Edge). Distinct (cells l)) (sym (none i)) tt;
  one_owner = λ i j e f h. absurd (subst (λ (l : List Edge). Contains l e) (none i) h);
  serial_once = λ i. subst (λ (l : List Edge). Distinct (edge_serials l)) (sym (none i)) tt;
  labelled = λ i e h. absurd (subst (λ (l : List Edge). Contains l e) (none i) h);
  whole = whole;
}
