-- How marks grow.
use Rattle.std.proofs.Common.{◌≡◌, ℕ, ◌<◌, ◌≤◌, ◌+◌, Bool, true, false, cond, refl, sym, ap, subst, ◌∙◌, ◌==◌, ◌⊎◌, inl, inr, Some, None, arith}
use Rattle.std.specs.Prelude.{Option}
use Rattle.std.specs.Option.{is_some}
use Rattle.std.proofs.lemmas.Bool.{eqb-true, eq-eqb}
use Rattle.tg_rights.specs.Promise.Letters.{Right, take, grant}
use Rattle.tg_rights.proofs.LettersLemmas.{right_some}
use Rattle.tg_graph.specs.Promise.Protection.{Protection, label}
use Rattle.tg_graph.specs.Promise.EachCommand.{HasOver}
use Rattle.tg_sharing.specs.Promise.Spans.{AreClosed, IsActor}
use Rattle.tg_sharing.specs.Inner.Marking.{AreEdgesClosed, AddsBridge, AddsSpan, AreGrantClosed, AreMarks, ArePairClosed, AreSettled, AreTakeClosed, Extends, Goes, IsBridge, IsNone, IsSpan, WasBridged, WasSpanned, bridge_of, is_bridged, is_spanned, size, span_of}
use Rattle.tg_sharing.specs.declared.marks.Bridge.{Bridge}
use Rattle.tg_sharing.specs.declared.marks.BridgeWay.{BridgeWay}
use Rattle.tg_sharing.specs.declared.marks.BridgeWay.TheVariants as bridge
use Rattle.tg_sharing.specs.declared.marks.Marks.{Marks}
use Rattle.tg_sharing.specs.declared.marks.Span.{Span}
use Rattle.tg_sharing.specs.declared.marks.SpanWay.{SpanWay}
use Rattle.tg_sharing.specs.declared.marks.SpanWay.TheVariants as span

-- p is what o was, but w if this is added `there` and was not `here`
module _ {X : Type 0} (w : X) (o p : Option X) where
  stays : (here there : Bool) (x : X) → p ≡ cond here o (cond there (Some w) o) → (there ≡ true → here ≡ is_some o) → o ≡ Some x → p ≡ Some x
  stays true there x is same e = is ∙ e
  stays false false x is same e = is ∙ e
  stays false true x is same e = absurd (cc (same refl, e))

  came : (here there : Bool) (x : X) → p ≡ cond here o (cond there (Some w) o) → p ≡ Some x → (o ≡ Some x) ⊎ ((here ≡ false) × (there ≡ true) × (w ≡ x))
  came true there x is e = inl (sym is ∙ e)
  came false false x is e = inl (sym is ∙ e)
  came false true x is e = let same : Some w ≡ Some x = sym is ∙ e in inr (refl, refl, cc same)

  added : (here there : Bool) → p ≡ cond here o (cond there (Some w) o) → there ≡ true → here ≡ is_some o → is_some p ≡ true
  added true there is at same = ap is_some is ∙ sym same
  added false true is at same = ap is_some is
  added false false is at same = absurd (cc at)

  elsewhere : (here there : Bool) → p ≡ cond here o (cond there (Some w) o) → there ≡ false → p ≡ o
  elsewhere true there is apart = is
  elsewhere false false is apart = is
  elsewhere false true is apart = absurd (cc apart)

  unchanged : (here there : Bool) (before after : ℕ) → p ≡ cond here o (cond there (Some w) o) → after ≡ before + cond here 0 1 → before ≡ after → p ≡ o
  unchanged true there before after is more same = is
  unchanged false there before after is more same = absurd (omega (arith, more, same))

more : (here : Bool) (before after : ℕ) → after ≡ before + cond here 0 1 → before ≤ after
more true before after e = omega (arith, e)
more false before after e = omega (arith, e)

-- what is there
filled : {X : Type 0} (o : Option X) → is_some o ≡ true → (x : X) × (o ≡ Some x)
filled (Some x) h = (x, refl)
filled None h = absurd (cc h)

module _ (m n : Marks) where
  pub span-Extends : (v : ℕ) (w : SpanWay) → AddsSpan m n v w → Extends m n
  span-Extends v w adds = record {
    from = adds.from;
    spans = λ q s e. stays _ (span_of m q) (span_of n q) (is_spanned m v) (q == v) s (adds.spans q) (λ is. ap (is_spanned m) (sym (eqb-true q v is))) e;
    bridges = λ q b e. adds.bridges q ∙ e;
    grows = more (is_spanned m v) (size m) (size n) adds.grows;
    same_spans = λ e q. unchanged _ (span_of m q) (span_of n q) (is_spanned m v) (q == v) (size m) (size n) (adds.spans q) adds.grows e;
    same_bridges = λ e q. adds.bridges q;
  }

  pub bridge-Extends : (v : ℕ) (w : BridgeWay) → AddsBridge m n v w → Extends m n
  bridge-Extends v w adds = record {
    from = adds.from;
    spans = λ q s e. adds.spans q ∙ e;
    bridges = λ q b e. stays _ (bridge_of m q) (bridge_of n q) (is_bridged m v) (q == v) b (adds.bridges q) (λ is. ap (is_bridged m) (sym (eqb-true q v is))) e;
    grows = more (is_bridged m v) (size m) (size n) adds.grows;
    same_spans = λ e q. adds.spans q;
    same_bridges = λ e q. unchanged _ (bridge_of m q) (bridge_of n q) (is_bridged m v) (q == v) (size m) (size n) (adds.bridges q) adds.grows e;
  }

pub Extends-refl : (m : Marks) → Extends m m
Extends-refl m = record { from = refl; spans = λ v s e. e; bridges = λ v b e. e; grows = omega arith; same_spans = λ e v. refl; same_bridges = λ e v. refl }

pub Extends-trans : (m n o : Marks) → Extends m n → Extends n o → Extends m o
Extends-trans m n o a b = record {
  from = b.from ∙ a.from;
  spans = λ v s e. b.spans v s (a.spans v s e);
  bridges = λ v s e. b.bridges v s (a.bridges v s e);
  grows = omega (arith, a.grows, b.grows);
  same_spans = λ e v. let first : size m ≡ size n = omega (arith, a.grows, b.grows, e) in let second : size n ≡ size o = omega (arith, a.grows, b.grows, e) in b.same_spans second v ∙ a.same_spans first v;
  same_bridges = λ e v. let first : size m ≡ size n = omega (arith, a.grows, b.grows, e) in let second : size n ≡ size o = omega (arith, a.grows, b.grows, e) in b.same_bridges second v ∙ a.same_bridges first v;
}

pub Goes-refl : (G : Protection) (m : Marks) → Goes G m m
Goes-refl G m = record { extends = Extends-refl m; marks = λ h. h; settled = λ h. h }

pub Goes-trans : (G : Protection) (m n o : Marks) → Goes G m n → Goes G n o → Goes G m o
Goes-trans G m n o a b = record { extends = Extends-trans m n o a.extends b.extends; marks = λ h. b.marks (a.marks h); settled = λ h. b.settled (a.settled h) }

-- what was spanned or bridged stays so
pub still_spanned : (m n : Marks) → Extends m n → (v : ℕ) → is_spanned m v ≡ true → is_spanned n v ≡ true
still_spanned m n e v h = let s = filled (span_of m v) h in ap is_some (e.spans v s.0 s.1)

pub still_bridged : (m n : Marks) → Extends m n → (v : ℕ) → is_bridged m v ≡ true → is_bridged n v ≡ true
still_bridged m n e v h = let b = filled (bridge_of m v) h in ap is_some (e.bridges v b.0 b.1)

-- the mark of what is spanned or bridged
pub spanned_mark : (G : Protection) (m : Marks) → AreMarks G m → (v : ℕ) → is_spanned m v ≡ true → WasSpanned m v (size m)
spanned_mark G m marks v h = let s = filled (span_of m v) h in (s.0, s.1, (marks.spans v s.0 s.1).1)

pub bridged_mark : (G : Protection) (m : Marks) → AreMarks G m → (v : ℕ) → is_bridged m v ≡ true → WasBridged m v (size m)
bridged_mark G m marks v h = let b = filled (bridge_of m v) h in (b.0, b.1, (marks.bridges v b.0 b.1).1)

module _ (G : Protection) (m n : Marks) (e : Extends m n) where
  later_span : (v rank : ℕ) → WasSpanned m v rank → WasSpanned n v rank
  later_span v rank (s, is, low) = (s, e.spans v s is, low)

  later_bridge : (v rank : ℕ) → WasBridged m v rank → WasBridged n v rank
  later_bridge v rank (b, is, low) = (b, e.bridges v b is, low)

  still_span : (v rank : ℕ) (w : SpanWay) → IsSpan G m v rank w → IsSpan G n v rank w
  still_span v rank span.Itself h = (h.0, later_bridge v rank h.1)
  still_span v rank (span.Taken u) h = (h.0, later_span u rank h.1)

  still_bridge : (v rank : ℕ) (w : BridgeWay) → IsBridge G m v rank w → IsBridge G n v rank w
  still_bridge v rank bridge.Own h = (h.0 ∙ sym e.from, h.1)
  still_bridge v rank bridge.Initial h = subst (λ (f : ℕ). HasOver G v grant f) (sym e.from) h
  still_bridge v rank (bridge.Granting u) h = (h.0, later_span u rank h.1)
  still_bridge v rank (bridge.Granted u) h = (h.0, later_span u rank h.1)
  still_bridge v rank (bridge.Reaching u) h = (h.0, later_bridge u rank h.1)
  still_bridge v rank bridge.Spanned h = (h.0, later_span v rank h.1)

-- marks stay marks when one is set for a reason
pub span-AreMarks : (G : Protection) (m n : Marks) (v : ℕ) (w : SpanWay) → AddsSpan m n v w → IsSpan G m v (size m) w → AreMarks G m → AreMarks G n
span-AreMarks G m n v w adds reason marks = record {
  spans = λ q s e. elim (came new (span_of m q) (span_of n q) (is_spanned m v) (q == v) s (adds.spans q) e) [
    | inl old ↦ (still_span G m n ext q s.rank s.way (marks.spans q s old).0, omega (arith, (marks.spans q s old).1, ext.grows))
    | inr made ↦ subst (Is q) made.2 (subst (λ (p : ℕ). Is p new) (sym (eqb-true q v made.1)) (here, omega (arith, one made.0)))
  ];
  bridges = λ q b e. let old = marks.bridges q b (sym (adds.bridges q) ∙ e) in (still_bridge G m n ext q b.rank b.way old.0, omega (arith, old.1, ext.grows));
} where
  ext : Extends m n
  ext = span-Extends m n v w adds

  new : Span
  new = record { way = w; rank = size m }

  Is : ℕ → Span → Type 0
  Is q s = IsSpan G n q s.rank s.way × (s.rank < size n)

  here : IsSpan G n v (size m) w
  here = still_span G m n ext v (size m) w reason

  one : is_spanned m v ≡ false → size n ≡ size m + 1
  one is = adds.grows ∙ ap (λ b. size m + cond b 0 1) is

pub bridge-AreMarks : (G : Protection) (m n : Marks) (v : ℕ) (w : BridgeWay) → AddsBridge m n v w → IsBridge G m v (size m) w → AreMarks G m → AreMarks G n
bridge-AreMarks G m n v w adds reason marks = record {
  bridges = λ q b e. elim (came new (bridge_of m q) (bridge_of n q) (is_bridged m v) (q == v) b (adds.bridges q) e) [
    | inl old ↦ (still_bridge G m n ext q b.rank b.way (marks.bridges q b old).0, omega (arith, (marks.bridges q b old).1, ext.grows))
    | inr made ↦ subst (Is q) made.2 (subst (λ (p : ℕ). Is p new) (sym (eqb-true q v made.1)) (here, omega (arith, one made.0)))
  ];
  spans = λ q s e. let old = marks.spans q s (sym (adds.spans q) ∙ e) in (still_span G m n ext q s.rank s.way old.0, omega (arith, old.1, ext.grows));
} where
  ext : Extends m n
  ext = bridge-Extends m n v w adds

  new : Bridge
  new = record { way = w; rank = size m }

  Is : ℕ → Bridge → Type 0
  Is q b = IsBridge G n q b.rank b.way × (b.rank < size n)

  here : IsBridge G n v (size m) w
  here = still_bridge G m n ext v (size m) w reason

  one : is_bridged m v ≡ false → size n ≡ size m + 1
  one is = adds.grows ∙ ap (λ b. size m + cond b 0 1) is

-- what was added is there, and nothing else
pub span_added : (m n : Marks) (v : ℕ) (w : SpanWay) → AddsSpan m n v w → is_spanned n v ≡ true
span_added m n v w adds = added _ (span_of m v) (span_of n v) (is_spanned m v) (v == v) (adds.spans v) (eq-eqb v v refl) refl

pub bridge_added : (m n : Marks) (v : ℕ) (w : BridgeWay) → AddsBridge m n v w → is_bridged n v ≡ true
bridge_added m n v w adds = added _ (bridge_of m v) (bridge_of n v) (is_bridged m v) (v == v) (adds.bridges v) (eq-eqb v v refl) refl

pub span_elsewhere : (m n : Marks) (v : ℕ) (w : SpanWay) → AddsSpan m n v w → (q : ℕ) → (q == v) ≡ false → is_spanned n q ≡ is_spanned m q
span_elsewhere m n v w adds q apart = ap is_some (elsewhere _ (span_of m q) (span_of n q) (is_spanned m v) (q == v) (adds.spans q) apart)

pub bridge_elsewhere : (m n : Marks) (v : ℕ) (w : BridgeWay) → AddsBridge m n v w → (q : ℕ) → (q == v) ≡ false → is_bridged n q ≡ is_bridged m q
bridge_elsewhere m n v w adds q apart = ap is_some (elsewhere _ (bridge_of m q) (bridge_of n q) (is_bridged m v) (q == v) (adds.bridges q) apart)

-- one mark is set, of a vertex that may not act
pub span-Goes : (G : Protection) (m n : Marks) (v : ℕ) (w : SpanWay) → AddsSpan m n v w → IsSpan G m v (size m) w → (IsActor G v → ⊥) → Goes G m n
span-Goes G m n v w adds reason idle = record {
  extends = span-Extends m n v w adds;
  marks = span-AreMarks G m n v w adds reason;
  settled = λ h q act. by q act (q == v) refl h;
} where
  by : (q : ℕ) → IsActor G q → (b : Bool) → (q == v) ≡ b → AreSettled G m → is_spanned n q ≡ is_bridged n q
  by q act true at h = absurd (idle (subst (IsActor G) (eqb-true q v at) act))
  by q act false at h = span_elsewhere m n v w adds q at ∙ h q act ∙ sym (ap is_some (adds.bridges q))

pub bridge-Goes : (G : Protection) (m n : Marks) (v : ℕ) (w : BridgeWay) → AddsBridge m n v w → IsBridge G m v (size m) w → (IsActor G v → ⊥) → Goes G m n
bridge-Goes G m n v w adds reason idle = record {
  extends = bridge-Extends m n v w adds;
  marks = bridge-AreMarks G m n v w adds reason;
  settled = λ h q act. by q act (q == v) refl h;
} where
  by : (q : ℕ) → IsActor G q → (b : Bool) → (q == v) ≡ b → AreSettled G m → is_spanned n q ≡ is_bridged n q
  by q act true at h = absurd (idle (subst (IsActor G) (eqb-true q v at) act))
  by q act false at h = ap is_some (adds.spans q) ∙ h q act ∙ sym (bridge_elsewhere m n v w adds q at)

-- both marks are set, of one that may
pub span-both : (G : Protection) (m n o : Marks) (v : ℕ) (w : SpanWay) → AddsSpan m n v w → IsSpan G m v (size m) w → IsActor G v → AddsBridge n o v bridge.Spanned → Goes G m o
span-both G m n o v w adds reason act also = record {
  extends = Extends-trans m n o (span-Extends m n v w adds) (bridge-Extends n o v bridge.Spanned also);
  marks = λ h. let marks = span-AreMarks G m n v w adds reason h in bridge-AreMarks G n o v bridge.Spanned also (act, spanned_mark G n marks v there) marks;
  settled = λ h q actor. by q actor (q == v) refl h;
} where
  there : is_spanned n v ≡ true
  there = span_added m n v w adds

  by : (q : ℕ) → IsActor G q → (b : Bool) → (q == v) ≡ b → AreSettled G m → is_spanned o q ≡ is_bridged o q
  by q actor true at h =
      ap (is_spanned o) (eqb-true q v at) ∙ still_spanned n o (bridge-Extends n o v bridge.Spanned also) v there ∙ sym (bridge_added n o v bridge.Spanned also) ∙ ap (is_bridged o) (sym (eqb-true q v at))
  by q actor false at h =
      ap is_some (also.spans q) ∙ span_elsewhere m n v w adds q at ∙ h q actor ∙ sym (ap is_some (adds.bridges q)) ∙ sym (bridge_elsewhere n o v bridge.Spanned also q at)

pub bridge-both : (G : Protection) (m n o : Marks) (v : ℕ) (w : BridgeWay) → AddsBridge m n v w → IsBridge G m v (size m) w → IsActor G v → AddsSpan n o v span.Itself → Goes G m o
bridge-both G m n o v w adds reason act also = record {
  extends = Extends-trans m n o (bridge-Extends m n v w adds) (span-Extends n o v span.Itself also);
  marks = λ h. let marks = bridge-AreMarks G m n v w adds reason h in span-AreMarks G n o v span.Itself also (act, bridged_mark G n marks v there) marks;
  settled = λ h q actor. by q actor (q == v) refl h;
} where
  there : is_bridged n v ≡ true
  there = bridge_added m n v w adds

  by : (q : ℕ) → IsActor G q → (b : Bool) → (q == v) ≡ b → AreSettled G m → is_spanned o q ≡ is_bridged o q
  by q actor true at h =
      ap (is_spanned o) (eqb-true q v at) ∙ span_added n o v span.Itself also ∙ sym (still_bridged n o (span-Extends n o v span.Itself also) v there) ∙ ap (is_bridged o) (sym (eqb-true q v at))
  by q actor false at h =
      span_elsewhere n o v span.Itself also q at ∙ ap is_some (adds.spans q) ∙ h q actor ∙ sym (bridge_elsewhere m n v w adds q at) ∙ sym (ap is_some (also.bridges q))

-- whichever marks mark the same are closed along the same edges
alike_closed : (m n : Marks) → n.from ≡ m.from → ((v : ℕ) → is_spanned n v ≡ is_spanned m v) → ((v : ℕ) → is_bridged n v ≡ is_bridged m v) →
    (G : Protection) (x y : ℕ) → ArePairClosed G n x y → ArePairClosed G m x y
alike_closed m n own spans bridges G x y h = record {
  take = λ t. record {
    taken = λ p. sym (spans y) ∙ (h.take t).taken (spans x ∙ p);
    reaching = λ p. sym (bridges x) ∙ (h.take t).reaching (bridges y ∙ p);
  };
  grant = λ g. record {
    granting = λ p. sym (bridges y) ∙ (h.grant g).granting (spans x ∙ p);
    granted = λ p. sym (bridges x) ∙ (h.grant g).granted (spans y ∙ p);
    initial = λ is. sym (bridges x) ∙ (h.grant g).initial (is ∙ sym own);
  };
}

-- if there are no more marks, what is marked then was before
module _ (m n : Marks) (e : Extends m n) (same : size m ≡ size n) where
  pub spanned_before : (v : ℕ) → is_spanned n v ≡ is_spanned m v
  spanned_before v = ap is_some (e.same_spans same v)

  pub bridged_before : (v : ℕ) → is_bridged n v ≡ is_bridged m v
  bridged_before v = ap is_some (e.same_bridges same v)

  pub pair_before : (G : Protection) (x y : ℕ) → ArePairClosed G n x y → ArePairClosed G m x y
  pair_before = alike_closed m n e.from spanned_before bridged_before

-- and the other way round
pub pair_after : (m n : Marks) → Extends m n → size m ≡ size n → (G : Protection) (x y : ℕ) → ArePairClosed G m x y → ArePairClosed G n x y
pair_after m n e same = alike_closed n m (sym e.from) (λ v. sym (spanned_before m n e same v)) (λ v. sym (bridged_before m n e same v))

module _ (m n o : Marks) (a : Extends m n) (b : Extends n o) (none : size m ≡ size o) where
  none_first : size m ≡ size n
  none_first = omega (arith, a.grows, b.grows, none)

  none_then : size n ≡ size o
  none_then = omega (arith, a.grows, b.grows, none)

  -- two rules along a take
  pub both_takes : (x y : ℕ) → (is_spanned m x ≡ true → is_spanned n y ≡ true) → (is_bridged n y ≡ true → is_bridged o x ≡ true) → AreTakeClosed m x y
  both_takes x y f h = record {
    taken = λ p. sym (spanned_before m n a none_first y) ∙ f p;
    reaching = λ p. sym (bridged_before m n a none_first x) ∙ sym (bridged_before n o b none_then x) ∙ h (bridged_before m n a none_first y ∙ p);
  }

-- three rules along a grant
pub all_grants : (m n o q : Marks) → Extends m n → Extends n o → Extends o q → size m ≡ size q → (x y : ℕ) →
    (is_spanned m x ≡ true → is_bridged n y ≡ true) → (is_spanned n y ≡ true → is_bridged o x ≡ true) → (y ≡ o.from → is_bridged q x ≡ true) → AreGrantClosed m x y
all_grants m n o q a b c none x y f g h =
    let one : size m ≡ size n = omega (arith, a.grows, b.grows, c.grows, none) in
    let two : size m ≡ size o = omega (arith, a.grows, b.grows, c.grows, none) in
    let ab = Extends-trans m n o a b in
    let abc = Extends-trans m o q ab c in
    record {
      granting = λ p. sym (bridged_before m n a one y) ∙ f p;
      granted = λ p. sym (bridged_before m o ab two x) ∙ g (spanned_before m n a one y ∙ p);
      initial = λ is. sym (bridged_before m q abc none x) ∙ h (is ∙ sym ab.from);
    }

-- marks that are closed along each edge are closed
pub all_closed : (G : Protection) (m : Marks) → AreEdgesClosed G m → AreSettled G m → (IsActor G m.from → is_bridged m m.from ≡ true) →
    AreClosed G m.from (is_spanned m) (is_bridged m)
all_closed G m closed settled own = record {
  own = own;
  initial = λ u h. ((at u grant m.from h).grant h).initial refl;
  taken = λ u v p h. ((at u take v h).take h).taken p;
  granting = λ u v p h. ((at u grant v h).grant h).granting p;
  granted = λ u v h p. ((at u grant v h).grant h).granted p;
  reaching = λ u v h p. ((at u take v h).take h).reaching p;
  spans = λ v act p. settled v act ∙ p;
  bridges = λ v act p. sym (settled v act) ∙ p;
} where
  at : (x : ℕ) (r : Right) (y : ℕ) → HasOver G x r y → ArePairClosed G m x y
  at x r y h = closed x y (right_some (label G x y) r h)

-- at first nothing is marked
pub none_are_marks : (G : Protection) (from : ℕ) (m : Marks) → IsNone from m → AreMarks G m
none_are_marks G from m none = record {
  spans = λ v s e. absurd (cc (e, none.spans v));
  bridges = λ v s e. absurd (cc (e, none.bridges v));
}

pub none_are_settled : (G : Protection) (from : ℕ) (m : Marks) → IsNone from m → AreSettled G m
none_are_settled G from m none v act = ap is_some (none.spans v) ∙ sym (ap is_some (none.bridges v))
