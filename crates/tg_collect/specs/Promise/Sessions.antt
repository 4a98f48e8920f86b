-- what each session call does to a store
use Rattle.std.specs.Prelude.{◌≡◌, ℕ, ◌+◌, ◌<◌, ◌≤◌, List, [], length, Option, Some, None, ◌⊎◌, slice_set}
use Rattle.std.specs.FinMap as finmap
use Rattle.std.specs.FinSet as finset
use Rattle.tg_rights.specs.Promise.Letters.{Letters}
use Rattle.tg_graph.specs.declared.vertex.Vertex.{Vertex}
use Rattle.tg_graph.specs.Promise.Protection.{edge}
use Rattle.tg_marking.specs.Promise.Values.{Contains, Kind, Edge, Spot}
use Rattle.tg_marking.specs.Promise.Steps.{new_colour, shade}
use Rattle.tg_marking.specs.Promise.Runs as marking
pub use Rattle.tg_marking.specs.Promise.Runs.{LedTo}
use Rattle.tg_collect.specs.declared.machine.Root.{Root}
use Rattle.tg_rights.specs.declared.kind.Kind.TheVariants.{Subject}
use Rattle.tg_collect.specs.Promise.Stored.{assuming, with_agent, with_principal, with_target, without_principal, Stored}
use Rattle.tg_collect.specs.Promise.Readings.{shown_body, spot_at, place, held, free_slots, pending_of, IsEdgeIn, IsRootAt, principals, pending, agents}

-- the shade step of a seat that returns its target, which is in some slot
pub record TargetShaded (v w : Stored) (seat x : ℕ) : Type 0 where
  pub was : pending_of v seat ≡ Some x
  pub slot : ℕ
  pub root : IsRootAt v slot
  pub place : place v slot ≡ Some x
  pub left : w.left ≤ v.left
  pub graph : (next : ℕ) → held w next ≡ held v next
  pub is : w ≡ record v { slots = (shade (shown_body v) slot).slots; roots = with_target v.roots seat None; left = w.left }

abbrev pub Shaded : Stored → Stored → ℕ → Option ℕ → Type 0
Shaded v w seat None = (pending_of v seat ≡ None) × (w ≡ v)
Shaded v w seat (Some x) = TargetShaded v w seat x

-- x gains rights over y, which is the seat's target from then on. A new edge takes a cell.
pub record EdgeStored (v w : Stored) (seat x y : ℕ) (rights : Letters) : Type 0 where
  pub graph : (next : ℕ) → held w next ≡ record (held v next) { triples = finset.union (held v next).triples (edge x rights y) }
  pub joined : IsEdgeIn v x y → w.free_cells ≡ v.free_cells
  pub new : (IsEdgeIn v x y → ⊥) → v.free_cells ≡ w.free_cells + 1
  pub left : w.left ≤ v.left
  pub slot : ℕ
  pub place : place v slot ≡ Some x
  pub owner : Spot
  pub at : spot_at v slot ≡ Some owner
  pub edges : List Edge
  pub leads : (e : Edge) → Contains edges e → LedTo owner.edges e ⊎ (e.serial ≡ y)
  pub target : Root
  pub named : target.serial ≡ y
  pub is : w ≡ record v {
    slots = slice_set v.slots slot (Some (record owner { edges = edges }));
    roots = with_target v.roots seat (Some target);
    free_cells = w.free_cells;
    left = w.left;
  }

-- a new vertex, over which x has the rights, takes a free slot and a cell, and is the seat's target. It is white, or
-- black in a slot that the sweep has yet to reach.
pub record VertexStored (v w : Stored) (seat x serial : ℕ) (kind : Kind) (text : List ℕ) (rights : Letters) : Type 0 where
  pub graph : (next : ℕ) → held w next ≡ record (held v next) {
    vertices = finmap.insert (held v next).vertices serial (record { kind = kind; text = text });
    triples = finset.union (held v next).triples (edge x rights serial);
  }
  pub new : ℕ
  pub within : new < length v.slots
  pub free : spot_at v new ≡ None
  pub free_slots : free_slots v ≡ free_slots w + 1
  pub free_cells : v.free_cells ≡ w.free_cells + 1
  pub left : w.left ≤ v.left
  pub slot : ℕ
  pub place : place v slot ≡ Some x
  pub owner : Spot
  pub at : spot_at v slot ≡ Some owner
  pub edges : List Edge
  pub leads : (e : Edge) → Contains edges e → LedTo owner.edges e ⊎ (e.serial ≡ serial)
  pub is : w ≡ record v {
    slots = slice_set (slice_set v.slots new (Some (record { serial = serial; kind = kind; text = text; edges = []; colour = new_colour v.stage new }))) slot (Some (record owner { edges = edges }));
    roots = with_target v.roots seat (Some (record { serial = serial; slot = new }));
    free_cells = w.free_cells;
    left = w.left;
  }

-- a new subject, stored as any vertex is, that is a principal from then on
pub record PrincipalStored (v w : Stored) (seat x serial : ℕ) (text : List ℕ) (rights : Letters) : Type 0 where
  pub between : Stored
  pub vertex : VertexStored v between seat x serial Subject text rights
  pub is : w ≡ record between { roots = with_principal between.roots (record { serial = serial; slot = vertex.new }) }

-- x is a principal no longer, and a root only if it is some seat's target or agent
abbrev pub Retired : Stored → Stored → ℕ → Type 0
Retired v w x = w ≡ record v { roots = without_principal v.roots x }

-- x, which is held in some slot, is the seat's target and its agent from then on
pub record Assumed (v w : Stored) (seat x : ℕ) : Type 0 where
  pub slot : ℕ
  pub place : place v slot ≡ Some x
  pub is : w ≡ record v { roots = assuming v.roots seat (record { serial = x; slot = slot }) }

-- the seat has no agent any longer; who was is a root only if still a principal, or a target or agent of some seat
abbrev pub AgentLeft : Stored → Stored → ℕ → Type 0
AgentLeft v w seat = w ≡ record v { roots = with_agent v.roots seat None }

-- x loses rights over y. An edge left with none gives its cell back.
pub record RightsRemoved (v w : Stored) (x y : ℕ) (rights : Letters) : Type 0 where
  pub graph : (next : ℕ) → held w next ≡ record (held v next) { triples = finset.difference (held v next).triples (edge x rights y) }
  pub kept : IsEdgeIn w x y → w.free_cells ≡ v.free_cells
  pub gone : (IsEdgeIn w x y → ⊥) → w.free_cells ≡ v.free_cells + 1
  pub left : w.left ≤ v.left
  pub slot : ℕ
  pub place : place v slot ≡ Some x
  pub owner : Spot
  pub at : spot_at v slot ≡ Some owner
  pub edges : List Edge
  pub leads : (e : Edge) → Contains edges e → LedTo owner.edges e
  pub is : w ≡ record v { slots = slice_set v.slots slot (Some (record owner { edges = edges })); free_cells = w.free_cells; left = w.left }

-- the text of x is replaced
pub record TextReplaced (v w : Stored) (x : ℕ) (text answer : List ℕ) : Type 0 where
  pub vertex : Vertex
  pub was : (next : ℕ) → finmap.get (held v next).vertices x ≡ Some vertex
  pub old : answer ≡ vertex.text
  pub graph : (next : ℕ) → held w next ≡ record (held v next) { vertices = finmap.insert (held v next).vertices x (record vertex { text = text }) }
  pub slot : ℕ
  pub place : place v slot ≡ Some x
  pub owner : Spot
  pub at : spot_at v slot ≡ Some owner
  pub is : w ≡ record v { slots = slice_set v.slots slot (Some (record owner { text = text })) }

-- the text that a second one replaces is the first
abbrev pub TextsComeBack : Type 0
TextsComeBack = (u v w : Stored) (x : ℕ) (text other old again : List ℕ) → TextReplaced u v x text old → TextReplaced v w x other again → again ≡ text

-- what a session step does to one slot, by the new serial, if any, and the target that it sets, if any
abbrev pub SlotChanged : Stored → (new target : Option ℕ) → ℕ → Option Spot → Option Spot → Type 0
SlotChanged v new target i = marking.Changed v.stage (IsRootAt v) (λ x. new ≡ Some x) (λ x. target ≡ Some x) i

-- one session step; what is new may be a principal, and the target an agent
pub record Acted (v w : Stored) (new target : Option ℕ) : Type 0 where
  pub stage : w.stage ≡ v.stage
  pub principals : (x : ℕ) → Contains (principals w) x → Contains (principals v) x ⊎ (new ≡ Some x)
  pub agents : (x : ℕ) → Contains (agents w) (Some x) → Contains (agents v) (Some x) ⊎ (target ≡ Some x)
  pub pending : (x : ℕ) → Contains (pending w) (Some x) → Contains (pending v) (Some x) ⊎ (target ≡ Some x)
  pub slots : length w.slots ≡ length v.slots
  pub changes : (i : ℕ) → SlotChanged v new target i (spot_at v i) (spot_at w i)
  pub cells : w.cells ≡ v.cells
  pub key : w.key ≡ v.key
  pub left : w.left ≤ v.left
