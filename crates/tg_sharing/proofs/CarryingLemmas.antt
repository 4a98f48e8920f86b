-- What a load that goes from hand to hand keeps apart from.
use Rattle.std.proofs.Common.{◌≡◌, ◌≢◌, ℕ, ◌≤◌, true, false, refl, ap, inl, inr, Some, None, arith}
use Rattle.std.specs.Prelude.{Option}
use Rattle.std.specs.Option.{is_some}
use Rattle.tg_graph.specs.Promise.Protection.{Protection, IsGraph}
use Rattle.tg_sharing.specs.Inner.Fetching.{IsDrawn, IsUnmarked}
use Rattle.tg_sharing.specs.Inner.Marking.{WasBridged, is_bridged, is_spanned, span_of}
use Rattle.tg_sharing.specs.declared.marks.Marks.{Marks}
use Rattle.tg_sharing.specs.declared.marks.Span.{Span}
use Rattle.tg_sharing.proofs.GrowingLemmas.{actor_low}

-- who was bridged before is bridged
was_bridged : (m : Marks) (v rank : ℕ) → WasBridged m v rank → is_bridged m v ≡ true
was_bridged m v rank (b, is, low) = ap is_some is

-- the actor that can take from a spanned vertex is bridged
pub drawn_bridged : (G W : Protection) (m : Marks) (v root : ℕ) → IsDrawn G W m v root → is_spanned m v ≡ true → is_bridged m root ≡ true
drawn_bridged G W m v root drawn spanned = by (span_of m v) refl where
  by : (o : Option Span) → span_of m v ≡ o → is_bridged m root ≡ true
  by (Some s) is = was_bridged m root s.rank (drawn.bridged s is)
  by None is = absurd (cc (spanned, ap is_some is))

-- and so is not the vertex over which a load is
pub drawn_apart : (G W : Protection) (m : Marks) → IsGraph G → (v root : ℕ) → IsDrawn G W m v root → is_spanned m v ≡ true → (over : ℕ) → IsUnmarked G m over → root ≢ over
drawn_apart G W m g v root drawn spanned over apart = apart root (actor_low G g root drawn.actor) (inr (drawn_bridged G W m v root drawn spanned))

-- a vertex that is made later is not marked
pub later_unmarked : (G : Protection) (m : Marks) (v : ℕ) → G.next ≤ v → IsUnmarked G m v
later_unmarked G m v later u low marked is = absurd (omega (arith, later, low, is))

-- nor is one without marks
pub without_marks : (G : Protection) (m : Marks) (v : ℕ) → is_spanned m v ≡ false → is_bridged m v ≡ false → IsUnmarked G m v
without_marks G m v unspanned unbridged u low marked is = elim marked [
  | inl spanned ↦ absurd (cc (spanned, unspanned, ap (is_spanned m) is))
  | inr bridged ↦ absurd (cc (bridged, unbridged, ap (is_bridged m) is))
]
