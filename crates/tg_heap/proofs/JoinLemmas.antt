-- What keeps slots and cells joined.
use Rattle.std.proofs.Common.{◌≡◌, ◌≢◌, ℕ, ◌<◌, List, [], ◌∷◌, ◌++◌, length, Option, Some, None, inl, inr, sym, ◌∙◌, subst, ap, refl, set, true, false, length-set, get_or-set_same, get_or-set_other}
use Rattle.std.proofs.lemmas.Bool.{cases_eq}
use Rattle.tg_lists.specs.Promise.Membership.{Contains}
use Rattle.tg_rights.specs.Promise.Letters.{Letters, none, is_none}
use Rattle.tg_lists.proofs.MembershipLemmas.{contains_middle, contains_around}
use Rattle.tg_slots.specs.Promise.Table.{Table, Free, mark, in_slot}
use Rattle.tg_slots.specs.declared.slots.Occupant.{Occupant}
use Rattle.tg_cells.specs.Promise.Lists.{Edge, CellLists, owned, Found, Stands}
use Rattle.tg_cells.proofs.ListLemmas.{contains_apart, held_within}
use Rattle.tg_heap.specs.Inner.Graph.{AreJoined}
pub use Rattle.tg_cells.proofs.WalkLemmas.{First, first_is}

-- A cell that was found is in its owner's list, between these edges.
pub record Sought (lists : List (List Edge)) (i serial cell : ℕ) : Type 0 where
  pub found : Found (owned lists i) serial
  pub here : cell ≡ found.edge.cell
  pub stands : Stands lists cell i found.before found.edge found.after

pub sought : (lists : List (List Edge)) (i serial cell : ℕ) → (f : Found (owned lists i) serial) × (cell ≡ f.edge.cell) → Sought lists i serial cell
sought lists i serial cell f = record { found = f.0; here = f.1; stands = record { is = f.0.is; here = sym f.1 } }

-- Each edge leads to one of n slots.
abbrev pub Within : ℕ → List Edge → Type 0
Within n es = (e : Edge) → Contains es e → e.target < n

pub within_around : (n : ℕ) (p r : List Edge) (e : Edge) → Within n (p ++ e ∷ r) → Within n (p ++ r)
within_around n p r e w x h = w x (contains_around p r e x h)

pub within_label : (n : ℕ) (p r : List Edge) (e : Edge) (a : Letters) → Within n (p ++ e ∷ r) → Within n (p ++ record e { rights = a } ∷ r)
within_label n p r e a w x h = elim (contains_apart p r (record e { rights = a }) x h) [
  | inl is ↦ subst (λ (y : Edge). y.target < n) (sym is) (w e (contains_middle p r e))
  | inr rest ↦ w x (contains_around p r e x rest)
]

-- A slot that owns an edge is occupied, and one of the table.
pub owner_occupied : (t : Table) (c : CellLists) (i : ℕ) (p r : List Edge) (e : Edge) → AreJoined t c → owned c.lists i ≡ p ++ e ∷ r → mark t i ≢ Free
owner_occupied t c i p r e j is f =
    let none : p ++ e ∷ r ≡ [] = sym is ∙ j.free_bare i f in
    subst (λ (l : List Edge). Contains l e) none (contains_middle p r e)

pub owner_within : (t : Table) (c : CellLists) (i : ℕ) (p r : List Edge) (e : Edge) → AreJoined t c → owned c.lists i ≡ p ++ e ∷ r → i < length c.lists
owner_within t c i p r e j is = held_within c.lists i e (subst (λ (l : List Edge). Contains l e) (sym is) (contains_middle p r e))

-- One occupied slot's edges changed.
pub joins_set : (t : Table) (c d : CellLists) (i : ℕ) (es : List Edge) → d.lists ≡ set c.lists i es → mark t i ≢ Free → i < length c.lists → Within (length t.slots) es → AreJoined t c → AreJoined t d
joins_set t c d i es is occupied within w j = record {
  owners = ap length is ∙ length-set c.lists i es ∙ j.owners;
  targets = λ k e h. elim (cases_eq k i) [
    | inl here ↦ w e (subst (λ (l : List Edge). Contains l e) (ap (λ (ls : List (List Edge)). owned ls k) is ∙ ap (λ (n : ℕ). owned (set c.lists i es) n) here ∙ get_or-set_same c.lists i es [] within) h)
    | inr there ↦ j.targets k e (subst (λ (l : List Edge). Contains l e) (ap (λ (ls : List (List Edge)). owned ls k) is ∙ get_or-set_other c.lists i k es [] there) h)
  ];
  free_bare = λ k f. elim (cases_eq k i) [
    | inl here ↦ absurd (occupied (subst (λ (n : ℕ). mark t n ≡ Free) here f))
    | inr there ↦ ap (λ (ls : List (List Edge)). owned ls k) is ∙ get_or-set_other c.lists i k es [] there ∙ j.free_bare k f
  ];
}

-- The edge of a cell is gone, or has another label.
pub joins_unlink : (t : Table) (c d : CellLists) (i : ℕ) (p r : List Edge) (e : Edge) → owned c.lists i ≡ p ++ e ∷ r → d.lists ≡ set c.lists i (p ++ r) → AreJoined t c → AreJoined t d
joins_unlink t c d i p r e is new j =
    joins_set t c d i (p ++ r) new (owner_occupied t c i p r e j is) (owner_within t c i p r e j is)
    (within_around (length t.slots) p r e (subst (λ (l : List Edge). Within (length t.slots) l) is (j.targets i))) j

pub joins_label : (t : Table) (c d : CellLists) (i : ℕ) (p r : List Edge) (e : Edge) (a : Letters) → owned c.lists i ≡ p ++ e ∷ r → d.lists ≡ set c.lists i (p ++ record e { rights = a } ∷ r) → AreJoined t c → AreJoined t d
joins_label t c d i p r e a is new j =
    joins_set t c d i (p ++ record e { rights = a } ∷ r) new (owner_occupied t c i p r e j is) (owner_within t c i p r e j is)
    (within_label (length t.slots) p r e a (subst (λ (l : List Edge). Within (length t.slots) l) is (j.targets i))) j

-- A label is not empty if the test says so.
pub none_false : (l : Letters) → is_none l ≡ false → l ≢ none
none_false l e is = let test : is_none l ≡ true = ap is_none is in absurd (cc)

-- The vertex whose field was read.
pub record Reads {X : Type 0} (f : Occupant → X) (o : Option Occupant) (x : X) : Type 0 where
  pub occupant : Occupant
  pub is : o ≡ Some occupant
  pub here : f occupant ≡ x

pub reads : {X : Type 0} (f : Occupant → X) (o : Option Occupant) (x : X) → in_slot f o ≡ Some x → Reads f o x
reads f None x e = absurd (cc)
reads f (Some o) x e = record { occupant = o; is = refl; here = (cc) }
