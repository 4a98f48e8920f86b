-- The lists that linked cells show, and where a linked cell is.
use Rattle.std.proofs.Common.{◌≡◌, ℕ, zero, suc, ◌<◌, ◌≤◌, List, [], ◌∷◌, length, Some, None, inl, inr, sym, ◌∙◌, subst, ap, refl, map, set, get_or, arith, cond, ltb}
use Rattle.std.proofs.lemmas.List.{length-map, map-set}
use Rattle.tg_rights.specs.declared.limits.TheConstants.{MAX_CELLS, MAX_SLOTS}
use Rattle.tg_lists.specs.Promise.Membership.{Contains}
use Rattle.tg_lists.proofs.MembershipLemmas.{contains_middle}
use Rattle.tg_index.specs.declared.buckets.Link.{Link}
use Rattle.tg_index.specs.Promise.Rows.{Rows, first_of}
use Rattle.tg_index.specs.Inner.Links.{link_at, walked}
use Rattle.tg_lists.proofs.NestedLemmas.{get_or_kept}
use Rattle.tg_index.proofs.StepLemmas.{walked_is, first_is, next_is}
use Rattle.tg_cells.specs.declared.key.Key.{Key}
use Rattle.tg_cells.specs.declared.pool.Cell.{Cell}
use Rattle.tg_cells.specs.declared.cells.Cells.TheInside.{Inside}
use Rattle.tg_cells.specs.Promise.Lists.{Edge, CellLists, owned, cells, first_cell, Stands}
use Rattle.tg_cells.specs.Inner.Chain.{cell_at, edge_in, with_previous, with_next, link_of, links_of, holding, IsEntry}
use Rattle.tg_cells.specs.Inner.Inside.{rows_of, AreListed, view_of, IsInside}
use Rattle.tg_cells.proofs.ListLemmas.{row_is, row_at, first_cell_is, owner_within}

-- The link of a cell, and the links of cells of which one got another neighbour.
pub link_is : (cs : List Cell) (n : ℕ) → link_at (links_of cs) n ≡ link_of (cell_at cs n)
link_is [] n = refl
link_is (c ∷ cs) zero = refl
link_is (c ∷ cs) (suc n) = link_is cs n

pub links_next : (cs : List Cell) (n next : ℕ) → links_of (with_next cs n next) ≡ set (links_of cs) n (record (link_at (links_of cs) n) { next = next })
links_next cs n next = map-set link_of cs n (record (cell_at cs n) { next = next }) ∙ ap (λ (l : Link). set (links_of cs) n (record l { next = next })) (sym (link_is cs n))

pub links_previous : (cs : List Cell) (n previous : ℕ) → links_of (with_previous cs n previous) ≡ set (links_of cs) n (record (link_at (links_of cs) n) { previous = previous })
links_previous cs n previous = map-set link_of cs n (record (cell_at cs n) { previous = previous }) ∙ ap (λ (l : Link). set (links_of cs) n (record l { previous = previous })) (sym (link_is cs n))

-- What cells hold stays when neighbours change.
pub holding_next : (cs : List Cell) (n next m : ℕ) → holding m (cell_at (with_next cs n next) m) ≡ holding m (cell_at cs m)
holding_next cs n next m = get_or_kept (holding m) cs n (record (cell_at cs n) { next = next }) _ m refl

pub holding_previous : (cs : List Cell) (n previous m : ℕ) → holding m (cell_at (with_previous cs n previous) m) ≡ holding m (cell_at cs m)
holding_previous cs n previous m = get_or_kept (holding m) cs n (record (cell_at cs n) { previous = previous }) _ m refl

pub entry_kept : (cs ds : List Cell) (i : ℕ) (e : Edge) → length cs ≤ length ds → holding e.cell (cell_at ds e.cell) ≡ holding e.cell (cell_at cs e.cell) → IsEntry cs i e → IsEntry ds i e
entry_kept cs ds i e more same k = let was = k.within in record { within = omega arith; holds = same ∙ k.holds }

-- Edges that lie in their cells are read from these.
edges_read : (cs : List Cell) (es : List Edge) → ((e : Edge) → Contains es e → edge_in cs e.cell ≡ e) → map (edge_in cs) (cells es) ≡ es
edges_read cs [] k = refl
edges_read cs (e ∷ es) k = ap (λ (x : Edge). x ∷ map (edge_in cs) (cells es)) (k e (inl refl)) ∙ ap (λ (l : List Edge). e ∷ l) (edges_read cs es (λ x h. k x (inr h)))

lists_read : (cs : List Cell) (lists : List (List Edge)) → ((i : ℕ) (e : Edge) → Contains (owned lists i) e → edge_in cs e.cell ≡ e) → map (λ (ns : List ℕ). map (edge_in cs) ns) (map cells lists) ≡ lists
lists_read cs [] k = refl
lists_read cs (es ∷ lists) k =
    ap (λ (l : List Edge). l ∷ map (λ (ns : List ℕ). map (edge_in cs) ns) (map cells lists)) (edges_read cs es (k zero))
    ∙ ap (λ (l : List (List Edge)). es ∷ l) (lists_read cs lists (λ i. k (suc i)))

-- The fields that a call leaves: what always holds of them, and what they show.
pub record Leaves (s : Inside) (v : CellLists) : Type 0 where
  pub kept : IsInside s
  pub shows : view_of s ≡ v

-- Fields that agree with what is to be seen.
pub record Agrees (s : Inside) (hs : List ℕ) (cs : List Cell) (v : CellLists) : Type 0 where
  pub heads : s.heads.items ≡ hs
  pub items : s.cells.items ≡ cs
  pub size : s.size ≡ v.size
  pub count : s.free_count ≡ v.free
  pub key : s.key ≡ v.key
  pub most : s.size ≤ MAX_CELLS
  pub most_owners : length s.heads.items ≤ MAX_SLOTS
  pub room : s.size ≤ s.cells.room

-- What is shown is what the walks return.
pub leaves : (s : Inside) (hs : List ℕ) (cs : List Cell) (v : CellLists) → Agrees s hs cs v → AreListed hs cs s.free v → Leaves s v
leaves s hs cs v a k =
    let now : AreListed s.heads.items s.cells.items s.free v = subst (λ (x : List ℕ). AreListed x s.cells.items s.free v) (sym a.heads) (subst (λ (x : List Cell). AreListed hs x s.free v) (sym a.items) k) in
    let walks : (walked s.heads.items (links_of s.cells.items) v.size).lists ≡ map cells v.lists = ap (λ (r : Rows). r.lists) (walked_is s.heads.items (links_of s.cells.items) (rows_of (links_of s.cells.items) v) now.rows) in
    let all : map (λ (ns : List ℕ). map (edge_in s.cells.items) ns) (map cells v.lists) ≡ v.lists = lists_read s.cells.items v.lists (λ i e h. ap (λ (x : ℕ × Edge). x.1) (now.entries i e h).holds) in
    let is : view_of s ≡ v =
    ap (λ (n : ℕ). record { lists = map (λ (ns : List ℕ). map (edge_in s.cells.items) ns) (walked s.heads.items (links_of s.cells.items) n).lists; free = s.free_count; size = n; key = s.key }) a.size
    ∙ ap (λ (l : List (List Edge)). record { lists = l; free = s.free_count; size = v.size; key = s.key }) (ap (λ (l : List (List ℕ)). map (λ (ns : List ℕ). map (edge_in s.cells.items) ns) l) walks ∙ all)
    ∙ ap (λ (n : ℕ). record { lists = v.lists; free = n; size = v.size; key = s.key }) a.count
    ∙ ap (λ (x : Key). record { lists = v.lists; free = v.free; size = v.size; key = x }) a.key in
    record {
      kept = record { shown = subst (λ (u : CellLists). AreListed s.heads.items s.cells.items s.free u) (sym is) now; most = a.most; most_owners = a.most_owners; room = a.room };
      shows = is;
    }

-- What the fields show is what callers see.
module _ (s : Inside) (v : CellLists) (is : view_of s ≡ v) (k : IsInside s) where
  pub seen : AreListed s.heads.items s.cells.items s.free v
  seen = subst (λ (u : CellLists). AreListed s.heads.items s.cells.items s.free u) is k.shown

  pub agrees : Agrees s s.heads.items s.cells.items v
  agrees = record {
    heads = refl;
    items = refl;
    size = ap (λ (u : CellLists). u.size) is;
    count = ap (λ (u : CellLists). u.free) is;
    key = ap (λ (u : CellLists). u.key) is;
    most = k.most;
    most_owners = k.most_owners;
    room = k.room;
  }

  -- There is a head for each owner, and no more cells were used than there are.
  pub heads_fit : length s.heads.items ≡ length v.lists
  heads_fit = seen.rows.heads ∙ length-map v.lists cells

  pub used_fits : length s.cells.items ≤ s.size
  used_fits = let room = seen.rows.sound.room in let size = agrees.size in omega (arith, room, size, length-map s.cells.items link_of)

  -- What the first cell of a list is.
  pub read_first : (i head : ℕ) → i < length v.lists → head ≡ get_or s.heads.items i head → cond (ltb head (length s.cells.items)) (Some head) None ≡ first_cell (owned v.lists i)
  read_first i head own read =
      ap (λ (m : ℕ). cond (ltb head m) (Some head) None) (sym (length-map s.cells.items link_of))
      ∙ first_is s.heads.items (links_of s.cells.items) (rows_of (links_of s.cells.items) v) seen.rows i head (let size = length-map v.lists cells in omega arith) read
      ∙ ap first_of (row_is v.lists i) ∙ first_cell_is (owned v.lists i)

  module _ (n i : ℕ) (p r : List Edge) (e : Edge) (st : Stands v.lists n i p e r) where
    -- A linked cell holds its edge, and leads to the next one.
    pub linked_entry : IsEntry s.cells.items i e
    linked_entry = seen.entries i e (subst (λ (l : List Edge). Contains l e) (sym st.is) (contains_middle p r e))

    pub linked_within : n < length s.cells.items
    linked_within = subst (λ (m : ℕ). m < length s.cells.items) st.here linked_entry.within

    pub read_cell : edge_in s.cells.items n ≡ e
    read_cell = ap (edge_in s.cells.items) (sym st.here) ∙ ap (λ (x : ℕ × Edge). x.1) linked_entry.holds

    pub read_next : cond (ltb (cell_at s.cells.items n).next (length s.cells.items)) (Some (cell_at s.cells.items n).next) None ≡ first_cell r
    read_next =
        ap (λ (m : ℕ). cond (ltb (cell_at s.cells.items n).next m) (Some (cell_at s.cells.items n).next) None) (sym (length-map s.cells.items link_of))
        ∙ ap (λ (l : Link). cond (ltb l.next (length (links_of s.cells.items))) (Some l.next) None) (sym (link_is s.cells.items n))
        ∙ next_is s.heads.items (links_of s.cells.items) (rows_of (links_of s.cells.items) v) seen.rows i n (cells p) (cells r) (row_at v.lists n i p r e st) ∙ first_cell_is r

    -- The owner of a linked cell has a head.
    pub owner_fits : i < length s.heads.items
    owner_fits = let within = owner_within v n i p r e st in let heads = heads_fit in omega arith
