-- marks: each is set for a reason, which is an earlier mark or the goal's own vertex
use Rattle.std.specs.Prelude.{◌≡◌, ◌<◌, ◌≤◌, ◌+◌, ℕ, Bool, true, cond, ◌==◌, Option, Some, None, List, nat_eq}
use Rattle.std.specs.Option.{is_some}
use Rattle.std.specs.HashMap as hash
use Rattle.tg_rights.specs.Promise.Letters.{Letters, has, take, grant}
use Rattle.tg_graph.specs.Promise.Protection.{Protection, IsEdge}
use Rattle.tg_graph.specs.Promise.EachCommand.{HasOver}
use Rattle.tg_sharing.specs.Promise.Spans.{IsActor}
use Rattle.tg_sharing.specs.Inner.Paths.{TakePath, path_end}
use Rattle.tg_sharing.specs.declared.marks.Span.{Span}
use Rattle.tg_sharing.specs.declared.follow.Known.{Known}
use Rattle.tg_sharing.specs.declared.marks.Bridge.{Bridge}
use Rattle.tg_sharing.specs.declared.marks.Marked.{Marked}
use Rattle.tg_sharing.specs.declared.marks.Marks.{Marks}
use Rattle.tg_sharing.specs.declared.marks.SpanWay.{SpanWay}
use Rattle.tg_sharing.specs.declared.marks.SpanWay.TheVariants as span
use Rattle.tg_sharing.specs.declared.marks.BridgeWay.{BridgeWay}
use Rattle.tg_sharing.specs.declared.marks.BridgeWay.TheVariants as bridge

abbrev pub span_of : Marks → ℕ → Option Span
span_of m v = hash.get nat_eq m.spanned v

abbrev pub bridge_of : Marks → ℕ → Option Bridge
bridge_of m v = hash.get nat_eq m.bridged v

abbrev pub is_spanned : Marks → ℕ → Bool
is_spanned m v = is_some (span_of m v)

abbrev pub is_bridged : Marks → ℕ → Bool
is_bridged m v = is_some (bridge_of m v)

-- which marks the vertex has
abbrev pub marked : Marks → ℕ → Marked
marked m v = record { spanned = is_spanned m v; bridged = is_bridged m v }

abbrev pub size : Marks → ℕ
size m = hash.hash_map_len m.spanned + hash.hash_map_len m.bridged

-- the vertex is spanned by a mark that was set before
abbrev pub WasSpanned : Marks → ℕ → ℕ → Type 0
WasSpanned m v rank = (s : Span) × (span_of m v ≡ Some s) × (s.rank < rank)

-- the vertex is bridged by a mark that was set before
abbrev pub WasBridged : Marks → ℕ → ℕ → Type 0
WasBridged m v rank = (b : Bridge) × (bridge_of m v ≡ Some b) × (b.rank < rank)

-- the way in which v is spanned, by a mark of this rank, is one
abbrev pub IsSpan : Protection → Marks → ℕ → ℕ → SpanWay → Type 0
IsSpan G m v rank span.Itself = IsActor G v × WasBridged m v rank
IsSpan G m v rank (span.Taken u) = HasOver G u take v × WasSpanned m u rank

-- the way in which v is bridged, by a mark of this rank, is one
abbrev pub IsBridge : Protection → Marks → ℕ → ℕ → BridgeWay → Type 0
IsBridge G m v rank bridge.Own = (v ≡ m.from) × IsActor G v
IsBridge G m v rank bridge.Initial = HasOver G v grant m.from
IsBridge G m v rank (bridge.Granting u) = HasOver G u grant v × WasSpanned m u rank
IsBridge G m v rank (bridge.Granted w) = HasOver G v grant w × WasSpanned m w rank
IsBridge G m v rank (bridge.Reaching n) = HasOver G v take n × WasBridged m n rank
IsBridge G m v rank bridge.Spanned = IsActor G v × WasSpanned m v rank

-- each mark is set for a reason
pub record AreMarks (G : Protection) (m : Marks) : Type 0 where
  pub spans : (v : ℕ) (s : Span) → span_of m v ≡ Some s → IsSpan G m v s.rank s.way × (s.rank < size m)
  pub bridges : (v : ℕ) (b : Bridge) → bridge_of m v ≡ Some b → IsBridge G m v b.rank b.way × (b.rank < size m)

-- an actor is spanned exactly if it is bridged
abbrev pub AreSettled : Protection → Marks → Type 0
AreSettled G m = (v : ℕ) → IsActor G v → is_spanned m v ≡ is_bridged m v

-- no marks are set yet
pub record IsNone (own : ℕ) (m : Marks) : Type 0 where
  pub from : m.from ≡ own
  pub spans : (v : ℕ) → span_of m v ≡ None
  pub bridges : (v : ℕ) → bridge_of m v ≡ None

-- later marks: those that were set stay, and if there are no more, they are the same
pub record Extends (m n : Marks) : Type 0 where
  pub from : n.from ≡ m.from
  pub spans : (v : ℕ) (s : Span) → span_of m v ≡ Some s → span_of n v ≡ Some s
  pub bridges : (v : ℕ) (b : Bridge) → bridge_of m v ≡ Some b → bridge_of n v ≡ Some b
  pub grows : size m ≤ size n
  pub same_spans : size m ≡ size n → (v : ℕ) → span_of n v ≡ span_of m v
  pub same_bridges : size m ≡ size n → (v : ℕ) → bridge_of n v ≡ bridge_of m v

pub record AddsSpan (m n : Marks) (v : ℕ) (way : SpanWay) : Type 0 where
  pub from : n.from ≡ m.from
  pub spans : (q : ℕ) → span_of n q ≡ cond (is_spanned m v) (span_of m q) (cond (q == v) (Some (record { way = way; rank = size m })) (span_of m q))
  pub bridges : (q : ℕ) → bridge_of n q ≡ bridge_of m q
  pub grows : size n ≡ size m + cond (is_spanned m v) 0 1

pub record AddsBridge (m n : Marks) (v : ℕ) (way : BridgeWay) : Type 0 where
  pub from : n.from ≡ m.from
  pub spans : (q : ℕ) → span_of n q ≡ span_of m q
  pub bridges : (q : ℕ) → bridge_of n q ≡ cond (is_bridged m v) (bridge_of m q) (cond (q == v) (Some (record { way = way; rank = size m })) (bridge_of m q))
  pub grows : size n ≡ size m + cond (is_bridged m v) 0 1

-- further marks, each set for a reason, and settled
pub record Goes (G : Protection) (m n : Marks) : Type 0 where
  pub extends : Extends m n
  pub marks : AreMarks G m → AreMarks G n
  pub settled : AreSettled G m → AreSettled G n

-- the marks are closed along a take, and along a grant
pub record AreTakeClosed (m : Marks) (x y : ℕ) : Type 0 where
  pub taken : is_spanned m x ≡ true → is_spanned m y ≡ true
  pub reaching : is_bridged m y ≡ true → is_bridged m x ≡ true

pub record AreGrantClosed (m : Marks) (x y : ℕ) : Type 0 where
  pub granting : is_spanned m x ≡ true → is_bridged m y ≡ true
  pub granted : is_spanned m y ≡ true → is_bridged m x ≡ true
  pub initial : y ≡ m.from → is_bridged m x ≡ true

pub record ArePairClosed (G : Protection) (m : Marks) (x y : ℕ) : Type 0 where
  pub take : HasOver G x take y → AreTakeClosed m x y
  pub grant : HasOver G x grant y → AreGrantClosed m x y

-- these are the marks of this vertex
abbrev pub IsKnown : Marks → Known → Type 0
IsKnown m known = known.marked ≡ marked m known.vertex

-- an edge of this label leads to no mark, between vertices with these, the second of which is the goal's own if `own` says so
pub record IsFollowed (label : Letters) (x y : Marked) (own : Bool) : Type 0 where
  pub taken : has label take ≡ true → x.spanned ≡ true → y.spanned ≡ true
  pub reaching : has label take ≡ true → y.bridged ≡ true → x.bridged ≡ true
  pub granting : has label grant ≡ true → x.spanned ≡ true → y.bridged ≡ true
  pub granted : has label grant ≡ true → y.spanned ≡ true → x.bridged ≡ true
  pub initial : has label grant ≡ true → own ≡ true → x.bridged ≡ true

-- the marks are closed along each edge
abbrev pub AreEdgesClosed : Protection → Marks → Type 0
AreEdgesClosed G m = (x y : ℕ) → IsEdge G x y → ArePairClosed G m x y

-- takes lead from an actor that is bridged, by an earlier mark, to a spanned vertex
pub record IsPathTo (G : Protection) (m : Marks) (v root : ℕ) (later : List ℕ) : Type 0 where
  pub actor : IsActor G root
  pub bridged : (s : Span) → span_of m v ≡ Some s → WasBridged m root s.rank
  pub path : TakePath G root later
  pub ends : path_end root later ≡ v
