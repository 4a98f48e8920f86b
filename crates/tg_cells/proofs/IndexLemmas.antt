-- The index of the edges: what becomes of it when a cell is linked, freed or relabelled, and the search in a bucket.
use Rattle.std.proofs.Common.{◌≡◌, ◌≢◌, ℕ, ◌+◌, ◌*◌, ◌<◌, ◌≤◌, List, [], ◌∷◌, ◌++◌, length, Option, Some, None, inl, inr, sym, ◌∙◌, subst, ap, refl, set, replicate, cond, ltb, true, false, eqb, ◌&&◌, arith, length-set, get_or-set_same, get_or-set_other}
use Rattle.std.proofs.lemmas.Bool.{and_cases, and_parts, eqb-false, eqb-true}
use Rattle.tg_lists.specs.Promise.Membership.{Contains, Distinct}
use Rattle.tg_rights.specs.Promise.Letters.{Letters}
use Rattle.tg_lists.proofs.MembershipLemmas.{contains_append, contains_middle, split_at}
use Rattle.tg_index.specs.Promise.Rows.{Rows, row, first_of, IsUnheld, AreRows}
use Rattle.tg_lists.proofs.NestedLemmas.{added, in_front, grown, lost, kept, swapped}
use Rattle.tg_index.proofs.RowLemmas.{none_left, left, Walked, walk_step, at_cursor, taken_unheld}
use Rattle.tg_cells.specs.declared.pool.Cell.{Cell}
use Rattle.tg_cells.specs.declared.key.Key.{Key}
use Rattle.tg_cells.specs.declared.cells.Cells.TheInside.{Inside}
use Rattle.tg_cells.specs.Promise.Lists.{Edge, CellLists, owned, Stands, HasNone, IsUnowned, Found}
use Rattle.tg_cells.specs.Inner.Chain.{cell_at, holding}
use Rattle.tg_cells.specs.Inner.Index.{bucket_of, IsIndexed}
use Rattle.tg_cells.specs.Inner.Inside.{view_of, place_in, Indexes, IsKept}
use Rattle.tg_cells.proofs.ListLemmas.{relabelled, owner_within}
use Rattle.tg_cells.proofs.InsideLemmas.{Leaves, read_cell, seen}

-- A cell is linked for an edge.
pub index-link : (place : ℕ → ℕ → ℕ) (rows : List (List ℕ)) (lists : List (List Edge)) (i b : ℕ) (e : Edge) → IsIndexed place rows lists → i < length lists → b ≡ place i e.serial → b < length rows
    → IsIndexed place (set rows b (e.cell ∷ row rows b)) (set lists i (e ∷ owned lists i))
index-link place rows lists i b e x own is within = record {
  sound = λ a n h. elim (added rows b e.cell a n within h) [
    | inl new ↦ record { owner = i; edge = e; held = in_front lists i e own; here = sym new.1; bucket = sym is ∙ sym new.0 }
    | inr old ↦ (let was = x.sound a n old in record { owner = was.owner; edge = was.edge; held = grown lists i e was.owner was.edge own was.held; here = was.here; bucket = was.bucket })
  ];
  complete = λ j f h. elim (added lists i e j f own h) [
    | inl new ↦ subst (λ (g : Edge). Contains (row (set rows b (e.cell ∷ row rows b)) (place j g.serial)) g.cell) (sym new.1)
        (subst (λ (m : ℕ). Contains (row (set rows b (e.cell ∷ row rows b)) (place m e.serial)) e.cell) (sym new.0)
        (subst (λ (m : ℕ). Contains (row (set rows b (e.cell ∷ row rows b)) m) e.cell) is (in_front rows b e.cell within)))
    | inr old ↦ grown rows b e.cell (place j f.serial) f.cell within (x.complete j f old)
  ];
}

-- A cell is freed, and is then in nobody's list.
pub index-unlink : (place : ℕ → ℕ → ℕ) (rows : Rows) (lists : List (List Edge)) (i n b : ℕ) (p r : List Edge) (e : Edge) (q t : List ℕ) → IsIndexed place rows.lists lists → AreRows rows → Stands lists n i p e r → IsUnowned (set lists i (p ++ r)) n → i < length lists → b < length rows.lists
    → row rows.lists b ≡ q ++ n ∷ t → IsIndexed place (set rows.lists b (q ++ t)) (set lists i (p ++ r))
index-unlink place rows lists i n b p r e q t x sound st freed own within is = record {
  sound = λ a m h.
      let was = x.sound a m (lost rows.lists b n q t a m within is h) in
      let other : m ≢ n = λ same. taken_unheld rows b n q t within is sound a (subst (λ (y : ℕ). Contains (row (set rows.lists b (q ++ t)) a) y) same h) in
      let apart : was.edge ≢ e = λ same. other (sym was.here ∙ ap (λ (f : Edge). f.cell) same ∙ st.here) in
      record { owner = was.owner; edge = was.edge; held = kept lists i e p r was.owner was.edge own st.is apart was.held; here = was.here; bucket = was.bucket };
  complete = λ j f h. kept rows.lists b n q t (place j f.serial) f.cell within is (freed j f h) (x.complete j f (lost lists i e p r j f own st.is h));
}

-- A cell gets another label.
pub index-rights : (place : ℕ → ℕ → ℕ) (rows : List (List ℕ)) (v : CellLists) (i n : ℕ) (p r : List Edge) (e : Edge) (w : Letters) → IsIndexed place rows v.lists → Stands v.lists n i p e r → IsIndexed place rows (set v.lists i (relabelled p e w r))
index-rights place rows v i n p r e w x st = record {
  sound = λ b m h.
      let was = x.sound b m h in
      elim (swapped v.lists (set v.lists i (relabelled p e w r)) i p r e (record e { rights = w }) was.owner was.edge st.is here (λ o. get_or-set_other v.lists i was.owner (relabelled p e w r) [] o) was.held) [
        | inl same ↦ record {
          owner = i;
          edge = record e { rights = w };
          held = subst (λ (l : List Edge). Contains l (record e { rights = w })) (sym here) (contains_middle p r (record e { rights = w }));
          here = ap (λ (f : Edge). f.cell) (sym same.1) ∙ was.here;
          bucket = ap (λ (f : Edge). place i f.serial) (sym same.1) ∙ ap (λ (j : ℕ). place j was.edge.serial) (sym same.0) ∙ was.bucket;
        }
        | inr held ↦ record { owner = was.owner; edge = was.edge; held = held; here = was.here; bucket = was.bucket }
      ];
  complete = λ j f h. elim (swapped (set v.lists i (relabelled p e w r)) v.lists i p r (record e { rights = w }) e j f here st.is (λ o. sym (get_or-set_other v.lists i j (relabelled p e w r) [] o)) h) [
    | inl same ↦ subst (λ (m : ℕ). Contains (row rows (place m f.serial)) f.cell) (sym same.0)
        (subst (λ (g : Edge). Contains (row rows (place i g.serial)) g.cell) (sym same.1) (x.complete i e (subst (λ (l : List Edge). Contains l e) (sym st.is) (contains_middle p r e))))
    | inr old ↦ x.complete j f old
  ];
} where
  here : owned (set v.lists i (relabelled p e w r)) i ≡ relabelled p e w r
  here = get_or-set_same v.lists i (relabelled p e w r) [] (owner_within v n i p r e st)

-- A cell in nobody's list is in no bucket, and a linked one is in that of its edge.
pub fresh_unheld : (place : ℕ → ℕ → ℕ) (rows : List (List ℕ)) (lists : List (List Edge)) (n : ℕ) → IsIndexed place rows lists → IsUnowned lists n → IsUnheld rows n
fresh_unheld place rows lists n x fresh b h = let was = x.sound b n h in fresh was.owner was.edge was.held was.here

pub linked_held : (place : ℕ → ℕ → ℕ) (rows : List (List ℕ)) (lists : List (List Edge)) (n i serial b : ℕ) (p r : List Edge) (e : Edge) → IsIndexed place rows lists → Stands lists n i p e r → serial ≡ e.serial → b ≡ place i serial → Contains (row rows b) n
linked_held place rows lists n i serial b p r e x st same is =
    let held : Contains (owned lists i) e = subst (λ (l : List Edge). Contains l e) (sym st.is) (contains_middle p r e) in
    subst (λ (m : ℕ). Contains (row rows b) m) st.here (subst (λ (m : ℕ). Contains (row rows m) e.cell) (ap (λ (y : ℕ). place i y) (sym same) ∙ sym is) (x.complete i e held))

-- The fields that a call leaves, with the index.
pub record Stays (s : Inside) (v : CellLists) : Type 0 where
  pub kept : IsKept s
  pub shows : view_of s ≡ v

pub stays : (s : Inside) (v : CellLists) → Leaves s v → Indexes s v.lists → Stays s v
stays s v l x = record { kept = record { inside = l.kept; index = subst (λ (u : CellLists). Indexes s u.lists) (sym l.shows) x }; shows = l.shows }

pub index_seen : (s : Inside) (v : CellLists) → view_of s ≡ v → IsKept s → Indexes s v.lists
index_seen s v is k = subst (λ (u : CellLists). Indexes s u.lists) is k.index

-- A linked cell is in the bucket that was computed for it.
pub held_in : (s : Inside) (v : CellLists) (n i serial buckets b : ℕ) (p r : List Edge) (e : Edge) → view_of s ≡ v → IsKept s → Stands v.lists n i p e r → serial ≡ (cell_at s.cells.items n).serial
    → buckets ≡ length s.index.lists → b ≡ bucket_of s.key buckets i serial → Contains (row s.index.lists b) n
held_in s v n i serial buckets b p r e is k st read count at =
    linked_held (place_in s) s.index.lists v.lists n i serial b p r e (index_seen s v is k).edges st
    (read ∙ ap (λ (f : Edge). f.serial) (read_cell s v is k.inside n i p r e st)) (at ∙ ap (λ (m : ℕ). bucket_of s.key m i serial) count)

-- The search in a bucket: no cell that was passed is the owner's with that serial.
pub record Seeks (ns : List ℕ) (cs : List Cell) (i serial : ℕ) (cursor : Option ℕ) : Type 0 where
  pub walked : Walked ns cursor
  pub none : (m : ℕ) → Contains walked.passed m → (cell_at cs m).owner ≡ i → (cell_at cs m).serial ≢ serial

pub seeks_start : (ns : List ℕ) (cs : List Cell) (i serial : ℕ) (cursor : Option ℕ) → cursor ≡ first_of ns → Seeks ns cs i serial cursor
seeks_start ns cs i serial cursor at = record { walked = record { passed = []; rest = ns; is = refl; at = at }; none = λ m h. absurd h }

pub seeks_held : (ns : List ℕ) (cs : List Cell) (i serial n : ℕ) → Seeks ns cs i serial (Some n) → Contains ns n
seeks_held ns cs i serial n k = at_cursor ns n k.walked

pub seeks_within : (s : Inside) (v : CellLists) (b i serial n : ℕ) → view_of s ≡ v → IsKept s → Seeks (row s.index.lists b) s.cells.items i serial (Some n) → n < length s.cells.items
seeks_within s v b i serial n is k l =
    let was = (index_seen s v is k).edges.sound b n (seeks_held (row s.index.lists b) s.cells.items i serial n l) in
    subst (λ (m : ℕ). m < length s.cells.items) was.here ((seen s v is k.inside).entries was.owner was.edge was.held).within

-- The cell at the cursor is the one sought.
pub seeks_found : (s : Inside) (v : CellLists) (b i serial n : ℕ) → view_of s ≡ v → IsKept s → Seeks (row s.index.lists b) s.cells.items i serial (Some n) → (eqb (cell_at s.cells.items n).serial serial && eqb (cell_at s.cells.items n).owner i) ≡ true
    → (f : Found (owned v.lists i) serial) × (n ≡ f.edge.cell)
seeks_found s v b i serial n is k l test =
    let was = (index_seen s v is k).edges.sound b n (seeks_held (row s.index.lists b) s.cells.items i serial n l) in
    let tests = and_parts (eqb (cell_at s.cells.items n).serial serial) (eqb (cell_at s.cells.items n).owner i) test in
    let holds : holding was.edge.cell (cell_at s.cells.items n) ≡ (was.owner, was.edge) =
    subst (λ (m : ℕ). holding was.edge.cell (cell_at s.cells.items m) ≡ (was.owner, was.edge)) was.here ((seen s v is k.inside).entries was.owner was.edge was.held).holds in
    let owner : was.owner ≡ i = sym (ap (λ (x : ℕ × Edge). x.0) holds) ∙ eqb-true (cell_at s.cells.items n).owner i tests.1 in
    let named : was.edge.serial ≡ serial = sym (ap (λ (x : ℕ × Edge). x.1.serial) holds) ∙ eqb-true (cell_at s.cells.items n).serial serial tests.0 in
    let at = split_at (owned v.lists i) was.edge (subst (λ (j : ℕ). Contains (owned v.lists j) was.edge) owner was.held) in (
      record { before = at.before; edge = was.edge; after = at.after; is = at.is; here = named },
      sym was.here,
    )

-- The cell at the cursor is another one.
pub record SeeksOn (ns : List ℕ) (cs : List Cell) (i serial n : ℕ) (next : Option ℕ) : Type 0 where
  pub seeks : Seeks ns cs i serial next
  pub less : length (left ns next) < length (left ns (Some n))

pub seeks_on : (s : Inside) (v : CellLists) (b i serial n : ℕ) (next : Option ℕ) → view_of s ≡ v → IsKept s → Seeks (row s.index.lists b) s.cells.items i serial (Some n) → (eqb (cell_at s.cells.items n).serial serial && eqb (cell_at s.cells.items n).owner i) ≡ false
    → Distinct (row s.index.lists b) → ((p r : List ℕ) → row s.index.lists b ≡ p ++ n ∷ r → next ≡ first_of r) → SeeksOn (row s.index.lists b) s.cells.items i serial n next
seeks_on s v b i serial n next is k l test once follows =
    let step = walk_step (row s.index.lists b) n l.walked once in
    let at : next ≡ first_of step.after = follows l.walked.passed step.after step.is in
    let same = ap (λ (x : Option ℕ). length (left (row s.index.lists b) x)) at in
    let less = step.less in
    record {
      seeks = record {
        walked = record { passed = l.walked.passed ++ n ∷ []; rest = step.after; is = step.on; at = at };
        none = λ m h. elim (contains_append l.walked.passed (n ∷ []) m h) [
          | inl old ↦ l.none m old
          | inr new ↦ elim new [
            | inl e ↦ λ owner named. elim (and_cases (eqb (cell_at s.cells.items n).serial serial) (eqb (cell_at s.cells.items n).owner i) test) [
              | inl other ↦ eqb-false (cell_at s.cells.items n).serial serial other (ap (λ (m : ℕ). (cell_at s.cells.items m).serial) (sym e) ∙ named)
              | inr other ↦ eqb-false (cell_at s.cells.items n).owner i other (ap (λ (m : ℕ). (cell_at s.cells.items m).owner) (sym e) ∙ owner)
            ]
            | inr never ↦ absurd never
          ]
        ];
      };
      less = omega (arith, same, less);
    }

-- All cells of the bucket were passed.
pub seeks_end : (s : Inside) (v : CellLists) (b i serial : ℕ) → view_of s ≡ v → IsKept s → b ≡ place_in s i serial → Seeks (row s.index.lists b) s.cells.items i serial None → HasNone (owned v.lists i) serial
seeks_end s v b i serial is k at l e h named =
    let rest = none_left l.walked.rest l.walked.at in
    let there : Contains (row s.index.lists b) e.cell = subst (λ (m : ℕ). Contains (row s.index.lists m) e.cell) (ap (place_in s i) named ∙ sym at) ((index_seen s v is k).edges.complete i e h) in
    let holds = ((seen s v is k.inside).entries i e h).holds in
    elim (contains_append l.walked.passed l.walked.rest e.cell (subst (λ (m : List ℕ). Contains m e.cell) l.walked.is there)) [
      | inl old ↦ l.none e.cell old (ap (λ (x : ℕ × Edge). x.0) holds) (ap (λ (x : ℕ × Edge). x.1.serial) holds ∙ named)
      | inr new ↦ subst (λ (m : List ℕ). Contains m e.cell) rest new
    ]

-- If the key and the number of buckets stay, so do the buckets of edges.
same_place : (s after : Inside) → after.key ≡ s.key → length after.index.lists ≡ length s.index.lists → place_in after ≡ place_in s
same_place s after keys size = ap (λ (k : Key). bucket_of k (length after.index.lists)) keys ∙ ap (λ (n : ℕ). bucket_of s.key n) size

-- The index of the fields that a call leaves, if the call did not touch the index.
pub indexes-same : (s after : Inside) (lists now : List (List Edge)) → Indexes s lists → after.index ≡ s.index → after.key ≡ s.key → length s.cells.items ≡ length after.cells.items → s.size ≡ after.size → IsIndexed (place_in s) s.index.lists now → Indexes after now
indexes-same s after lists now x is keys cells_size size edges = record {
  some = subst (λ (i : Rows). 1 ≤ length i.lists) (sym is) x.some;
  enough = let buckets = ap (λ (i : Rows). length i.lists) is in let enough = x.enough in omega arith;
  used = ap (λ (i : Rows). i.used) is ∙ x.used ∙ cells_size;
  size = ap (λ (i : Rows). i.size) is ∙ x.size ∙ size;
  edges = subst (λ (f : ℕ → ℕ → ℕ). IsIndexed f after.index.lists now) (sym (same_place s after keys (ap (λ (i : Rows). length i.lists) is)))
      (subst (λ (i : Rows). IsIndexed (place_in s) i.lists now) (sym is) edges);
}

-- If it put a cell into it.
pub indexes-link : (s after : Inside) (lists : List (List Edge)) (i b : ℕ) (e : Edge) → Indexes s lists → i < length lists → b ≡ place_in s i e.serial → b < length s.index.lists
    → after.index ≡ record s.index { lists = set s.index.lists b (e.cell ∷ row s.index.lists b); used = cond (ltb e.cell s.index.used) s.index.used (s.index.used + 1) } → after.key ≡ s.key
    → cond (ltb e.cell s.index.used) s.index.used (s.index.used + 1) ≡ length after.cells.items → s.size ≡ after.size → Indexes after (set lists i (e ∷ owned lists i))
indexes-link s after lists i b e x own at within is keys grows size =
    let same : length after.index.lists ≡ length s.index.lists = ap (λ (r : Rows). length r.lists) is ∙ length-set s.index.lists b (e.cell ∷ row s.index.lists b) in
    let some = x.some in
    let enough = x.enough in
    record {
      some = omega arith;
      enough = omega arith;
      used = ap (λ (r : Rows). r.used) is ∙ grows;
      size = ap (λ (r : Rows). r.size) is ∙ x.size ∙ size;
      edges = subst (λ (f : ℕ → ℕ → ℕ). IsIndexed f after.index.lists (set lists i (e ∷ owned lists i))) (sym (same_place s after keys same))
          (subst (λ (l : List (List ℕ)). IsIndexed (place_in s) l (set lists i (e ∷ owned lists i))) (sym (ap (λ (r : Rows). r.lists) is)) (index-link (place_in s) s.index.lists lists i b e x.edges own at within));
    }

-- If it took a cell out of it.
pub indexes-unlink : (s after : Inside) (v : CellLists) (i n b serial : ℕ) (p r : List Edge) (e : Edge) → Indexes s v.lists → AreRows s.index → Stands v.lists n i p e r → IsUnowned (set v.lists i (p ++ r)) n → serial ≡ e.serial → b ≡ place_in s i serial → b < length s.index.lists
    → ((q t : List ℕ) → row s.index.lists b ≡ q ++ n ∷ t → after.index ≡ record s.index { lists = set s.index.lists b (q ++ t) }) → after.key ≡ s.key → length s.cells.items ≡ length after.cells.items → s.size ≡ after.size
    → Indexes after (set v.lists i (p ++ r))
indexes-unlink s after v i n b serial p r e x rows st fresh named at within takes keys cells_size size =
    let held = linked_held (place_in s) s.index.lists v.lists n i serial b p r e x.edges st named at in
    let split = split_at (row s.index.lists b) n held in
    let is = takes split.before split.after split.is in
    let same : length after.index.lists ≡ length s.index.lists = ap (λ (y : Rows). length y.lists) is ∙ length-set s.index.lists b (split.before ++ split.after) in
    let some = x.some in
    let enough = x.enough in
    record {
      some = omega arith;
      enough = omega arith;
      used = ap (λ (y : Rows). y.used) is ∙ x.used ∙ cells_size;
      size = ap (λ (y : Rows). y.size) is ∙ x.size ∙ size;
      edges = subst (λ (f : ℕ → ℕ → ℕ). IsIndexed f after.index.lists (set v.lists i (p ++ r))) (sym (same_place s after keys same))
          (subst (λ (l : List (List ℕ)). IsIndexed (place_in s) l (set v.lists i (p ++ r))) (sym (ap (λ (y : Rows). y.lists) is))
          (index-unlink (place_in s) s.index v.lists i n b p r e split.before split.after x.edges rows st fresh (owner_within v n i p r e st) within split.is));
    }

-- If there is nothing in it.
pub indexes-new : (s : Inside) (owners : ℕ) → s.cells.items ≡ [] → 1 ≤ length s.index.lists → s.size ≤ 4 * length s.index.lists → s.index.used ≡ 0 → s.index.size ≡ s.size → ((b : ℕ) → row s.index.lists b ≡ []) → ((i : ℕ) → owned (replicate owners []) i ≡ []) → Indexes s (replicate owners [])
indexes-new s owners none some enough used size rows lists = record {
  some = some;
  enough = enough;
  used = used ∙ sym (ap length none);
  size = size;
  edges = record {
    sound = λ b n h. absurd (subst (λ (l : List ℕ). Contains l n) (rows b) h);
    complete = λ i e h. absurd (subst (λ (l : List Edge). Contains l e) (lists i) h);
  };
}
