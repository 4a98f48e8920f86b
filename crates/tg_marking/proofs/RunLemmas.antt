-- What was not live has no slot once two cycles have ended; without sessions three cycles leave what is live.
use Rattle.std.proofs.Common.{◌≡◌, ◌≢◌, ℕ, zero, suc, ◌-◌, ◌≤◌, Bool, true, false, cond, Option, Some, ◌⊎◌, inl, inr, sym, ◌∙◌, subst, refl, arith, length, ◌+◌}
use Rattle.std.proofs.lemmas.Bool.Decides.{nat_tests}
use Rattle.tg_marking.specs.Promise.Values.{Colour, White, Grey, Black, Edge, Contains, Roots, HasRoot, Spot, Stage, Idle, Mark, Sweep, Body, spot, IsRootSlot, keeps, Kept, as_kept, kept_in}
use Rattle.tg_marking.specs.Promise.Invariant.{at_root, along, IsLive}
use Rattle.tg_marking.specs.Promise.Collected.{IsCalled, SlotTurns, stays, greys, blackens, whitens, strips, frees, Stays, Follows, begins, marks, parks, ends as ended, Parks, BodyCollected}
use Rattle.tg_marking.specs.Promise.Runs.{Sane, IsLiveIn, IsLiveOrNew, Mutated, BodyRunOf, begin, acts, goes, ends, CyclesAreComplete, Settles}

-- Roots are good, and edges of good ones lead to good ones.
record Fence (good : ℕ → Type 0) (b : Body) (p : Stage) : Type 0 where
  roots : (i : ℕ) (k : Kept) → IsRootSlot b i → kept_in b p i ≡ Some k → good k.serial
  edges : (i : ℕ) (k : Kept) (e : Edge) → kept_in b p i ≡ Some k → good k.serial → Contains k.edges e → good e.serial

abbrev Coloured : (ℕ → Type 0) → Colour → Body → Type 0
Coloured good c b = (i : ℕ) (s : Spot) → spot b i ≡ Some s → s.colour ≡ c → good s.serial

-- How far the collector has come with what is not good, by the ends of cycles and the phase: which slots are good.
abbrev Due : ℕ → Stage → ℕ → Colour → Type 0
Due zero g i c = ⊥
Due (suc zero) (Sweep k) i c = c ≡ Grey
Due (suc zero) g i c = ⊥
Due (suc (suc zero)) (Sweep k) i c = keeps (Sweep k) i c ≡ true
Due (suc (suc zero)) g i c = c ≢ White
Due (suc (suc (suc n))) g i c = Unit {0}

abbrev HowFar : (ℕ → Type 0) → ℕ → Body → Stage → Type 0
HowFar good n b g = (i : ℕ) (s : Spot) → spot b i ≡ Some s → Due n g i s.colour → good s.serial

abbrev Far : (ℕ → Type 0) → ℕ → Body → Stage → Type 0
Far good n b p = Fence good b p × HowFar good n b p

live_keeps : (good : ℕ → Type 0) (b : Body) (p : Stage) → Sane b p → Fence good b p → (i : ℕ) (k : Kept) → IsLive b p i → kept_in b p i ≡ Some k → good k.serial
live_keeps good b p g f i k (at_root _ r) h = f.roots i k r h
live_keeps good b p g f _ k (along i t e r is o) h =
    let there = g.closed.edges i t e is o in
    let old = f.edges i t e is (live_keeps good b p g f i t r is) o in grind arith

-- What is due of a spot was due of the one that its serial had.
due_before : (n : ℕ) (g : Stage) (i j : ℕ) (c d : Colour) → (c ≡ White) ⊎ (c ≡ d) → (keeps g i c ≡ true → keeps g j d ≡ true) → Due n g i c → Due n g j d
due_before zero g i j c d same held w = absurd w
due_before (suc zero) Idle i j c d same held w = absurd w
due_before (suc zero) Mark i j c d same held w = absurd w
due_before (suc zero) (Sweep k) i j c d same held w = grind arith
due_before (suc (suc zero)) Idle i j c d same held w = grind arith
due_before (suc (suc zero)) Mark i j c d same held w = grind arith
due_before (suc (suc zero)) (Sweep k) i j c d same held w = held w
due_before (suc (suc (suc n))) g i j c d same held w = tt

-- Session steps.
module _ (good : ℕ → Type 0) (next : ℕ) (fresh : (x : ℕ) → next ≤ x → good x) (b b' : Body) (p : Stage) (g : Sane b p) (a : Mutated b p b' next) (f : Fence good b p) where
  wanted : (x : ℕ) → IsLiveOrNew b p next x → good x
  wanted x w = let new = fresh x in grind (arith, live_keeps good b p g f)

  spots_act : (n : ℕ) → HowFar good n b p → HowFar good n b' p
  spots_act n old i s is d = elim (a.spots i s is) [
    | inl (j, t, at, same, colour, held) ↦ subst good same (old j t at (due_before n p i j s.colour t.colour colour held d))
    | inr w ↦ wanted s.serial w
  ]

  far_acts : (n : ℕ) → HowFar good n b p → Far good n b' p
  far_acts n old = (
    record {
      roots = λ i k r h. wanted k.serial (a.roots i k r h);
      edges = λ i k e h d c. elim (a.edges i k e h c) [
        | inl (j, o, x, there, named, has, to) ↦ subst good to (f.edges j o x there (subst good (sym named) d) has)
        | inr w ↦ wanted e.serial w
      ];
    },
    spots_act n old,
  )

-- Collector steps.
module _ (b b' : Body) (p p' : Stage) (e : Bool) (g : Sane b p) (g' : Sane b' p') (c : BodyCollected b p b' p' e) where
  stays_or : Stays p p' ⊎ Parks b b' p p'
  stays_or = let f = c.phases in let w = c.parks in grind arith

  -- What is held afterwards was held.
  pub held_back : (i : ℕ) (k : Kept) → kept_in b' p' i ≡ Some k → kept_in b p i ≡ Some k
  held_back i k h = elim stays_or [ inl y ↦ sym (c.held y i) ∙ h | inr w ↦ (w.stays i k h).0 ]

  -- What is live stays so, with its edges.
  live_same : (i : ℕ) → IsLive b p i → kept_in b' p' i ≡ kept_in b p i
  live_same i l = elim stays_or [ inl y ↦ c.held y i | inr w ↦ w.black i (w.unreached i l) ]

  live_stays : (i : ℕ) → IsLive b p i → IsLive b' p' i
  live_stays i (at_root _ r) = at_root i (subst (λ (q : Roots). HasRoot q i) (sym c.roots) r)
  live_stays _ (along i k x l h o) = along i k x (live_stays i l) (live_same i l ∙ h) o

  -- Outside the sweep each occupied slot is held.
  occupied : ((k : ℕ) → p ≢ Sweep k) → (i : ℕ) (s : Spot) → spot b i ≡ Some s → kept_in b p i ≡ Some (as_kept s)
  occupied m i s is = grind arith

  module _ (good : ℕ → Type 0) (f : Fence good b p) where
    -- What turns grey is a root, or a good slot's edge leads to it.
    called_good : Coloured good Grey b → ((k : ℕ) → p ≢ Sweep k) → (i : ℕ) (t : Spot) → spot b i ≡ Some t → IsCalled b i → good t.serial
    called_good h m i t e (inl r) = f.roots i (as_kept t) r (occupied m i t e)
    called_good h m i t e (inr (j, y, x, at, grey, o, to)) =
        let owner = occupied m j y at in
        let there = g.closed.edges j (as_kept y) x owner o in
        let d = occupied m i t e in
        let here = f.edges j (as_kept y) x owner (h j y at grey) o in grind arith

    -- What has a slot afterwards had it, and kept its colour or took its turn.
    slot_goes : (P : Colour → Type 0) → Coloured good Grey b → ((i : ℕ) (s : Spot) → spot b i ≡ Some s → P s.colour → good s.serial) → (P White → Coloured good Black b)
        → (i : ℕ) (s : Spot) → spot b' i ≡ Some s → P s.colour → good s.serial
    slot_goes P grey h black i s is w = by (spot b i) (spot b' i) refl is (c.turns i) where
      by : (o o' : Option Spot) → spot b i ≡ o → o' ≡ Some s → SlotTurns (IsCalled b) p i o o' → good s.serial
      by _ _ e e' (stays o) = h i s (e ∙ e') w
      by _ _ e e' (greys t v m l) = let old = called_good grey m i t e l in grind arith
      by _ _ e e' (blackens t v m) = let old = grey i t e v in grind arith
      by _ _ e e' (whitens t v m) = let k : s.colour ≡ White = cc in let old = black (subst P k w) i t e v in grind arith
      by _ _ e e' (strips t y r v m l) = let k : s.colour ≡ t.colour = cc in let old = h i t e (subst P k w) in grind arith
      by _ _ e e' (frees t v m l) = absurd (cc)

    progress_goes : (n : ℕ) → HowFar good n b p → HowFar good (cond e (suc n) n) b' p'
    progress_goes n h = by n p p' e c.phases refl refl h where
      by : (n : ℕ) (q q' : Stage) (e : Bool) → Follows (length b.slots) q q' e → p ≡ q → p' ≡ q' → HowFar good n b q → HowFar good (cond e (suc n) n) b' q'
      by zero _ _ _ (ended k l) a a' h i s is d = absurd d
      by zero _ _ false f a a' h i s is d = absurd d
      by (suc zero) _ _ _ begins a a' h i s is d = absurd d
      by (suc zero) _ _ _ marks a a' h i s is d = absurd d
      by (suc zero) _ _ _ parks a a' h i s is d = absurd (let w = c.parks a a' in let n = w.no_grey i in let t = w.same i in grind arith)
      by (suc zero) _ _ _ f a a' h i s is d = let grey = slot_goes (λ x. x ≡ Grey) h h (λ w. cc) i s is in let n = g'.idle in grind arith
      by (suc (suc zero)) _ _ _ begins a a' h i s is d = slot_goes (λ x. x ≢ White) (λ j t at x. h j t at (λ w. cc)) h (λ n. absurd (n refl)) i s is d
      by (suc (suc zero)) _ _ _ marks a a' h i s is d = slot_goes (λ x. x ≢ White) (λ j t at x. h j t at (λ w. cc)) h (λ n. absurd (n refl)) i s is d
      by (suc (suc zero)) _ _ _ parks a a' h i s is d = let t = (c.parks a a').same i in let here = h i s in grind (arith, nat_tests)
      by (suc (suc zero)) _ _ _ f a a' h i s is d = let k = held_back i (as_kept s) in let here = h i in grind arith
      by (suc (suc (suc n))) q q' e f a a' h i s is d = slot_goes (λ x. Unit {0}) (λ j t at x. h j t at tt) h (λ w j t at x. h j t at tt) i s is tt

    far_goes : (n : ℕ) → HowFar good n b p → Far good (cond e (suc n) n) b' p'
    far_goes n h = (
      record {
        roots = λ i k r h. f.roots i k (subst (λ (q : Roots). HasRoot q i) c.roots r) (held_back i k h);
        edges = λ i k x h d o. f.edges i k x (held_back i k h) d o;
      },
      progress_goes n h,
    )

-- Along a run: what each step keeps, by the cycles that have ended.
run_keeps : (Session : Body → Stage → Body → Type 0) (Q : ℕ → Body → Stage → Type 0) → ((c d : Body) (q : Stage) (n : ℕ) → Session c q d → Sane c q → Q n c q → Q n d q)
    → ((c d : Body) (q r : Stage) (e : Bool) (n : ℕ) → BodyCollected c q d r e → Sane c q → Sane d r → Q n c q → Q (cond e (suc n) n) d r)
    → (b : Body) (p : Stage) (m : ℕ) (c : Body) (q : Stage) (n : ℕ) → Sane b p → Q m b p → BodyRunOf Session b p c q n → Sane c q × Q (m + n) c q
run_keeps S Q s t b p m _ _ _ g k begin = (g, subst (λ (x : ℕ). Q x b p) (let e : m ≡ m + 0 = omega arith in e) k)
run_keeps S Q s t b p m _ _ _ g k (acts c d q n w a h) = let old = run_keeps S Q s t b p m c q n g k w in (h, s c d q (m + n) a old.0 old.1)
run_keeps S Q s t b p m _ _ _ g k (goes c d q r n w a h) = let old = run_keeps S Q s t b p m c q n g k w in (h, t c d q r false (m + n) a old.0 h old.1)
run_keeps S Q s t b p m _ _ _ g k (ends c d q r n w a h) =
    let old = run_keeps S Q s t b p m c q n g k w in (h, subst (λ (x : ℕ). Q x d r) (let e : suc (m + n) ≡ m + suc n = omega arith in e) (t c d q r true (m + n) a old.0 h old.1))

live_fence : (b : Body) (p : Stage) → Sane b p → Fence (IsLiveIn b p) b p
live_fence b p g = record {
  roots = λ i k r h. (i, k, at_root i r, h, refl);
  edges = λ i k e h l o.
      let here : l.0 ≡ i = (let once = g.once l.0 i k.serial in grind arith) in
      let there = g.closed.edges i k e h o in
      (e.target, there.0, along i k e (subst (IsLive b p) here l.2) h o, there.1, there.2);
}

pub complete : CyclesAreComplete
complete b c q next n g below r two i s is =
    let last = run_keeps (λ c q d. Mutated c q d next) (Far good) (λ c d q n a k far. far_acts good next (λ x l. inr l) c d q k a far.0 n far.1)
    (λ c d q r e n a k k' far. far_goes c d q r e k k' a good far.0 n far.1) b Idle 1 c q n g (fence, λ i s is d. absurd d) r in
    last.1.1 i s is (rw (let e : 1 + n ≡ suc (suc (suc (n - 2))) = omega (arith, two) in e) tt)
  where
    good : ℕ → Type 0
    good x = IsLiveOrNew b Idle next x

    fence : Fence good b Idle
    fence = let live = live_fence b Idle g in record {
      roots = λ i k r h. inl (live.roots i k r h);
      edges = λ i k e h d o. elim d [ inl l ↦ inl (live.edges i k e h l o) | inr n ↦ (let old = below i k h in absurd (omega (arith, old, n))) ];
    }

pub settles : Settles
settles b c p q g w i s is =
    let last = run_keeps (λ c q d. ⊥) StaysLive (λ c d q n bad. absurd bad) goes b p 0 c q 3 g ((live_fence b p g, λ i s is d. absurd d), λ x l. l) w in
    let now = last.1.1 s.serial (last.1.0.1 i s is tt) in
    let here : now.0 ≡ i = (let once = last.0.once now.0 i s.serial in grind arith) in
    subst (IsLive c q) here now.2
  where
    StaysLive : ℕ → Body → Stage → Type 0
    StaysLive n c q = Far (IsLiveIn b p) n c q × ((x : ℕ) → IsLiveIn b p x → IsLiveIn c q x)

    goes : (c d : Body) (q r : Stage) (e : Bool) (n : ℕ) → BodyCollected c q d r e → Sane c q → Sane d r → StaysLive n c q → StaysLive (cond e (suc n) n) d r
    goes c d q r e n a k k' (far, still) = (
      far_goes c d q r e k k' a (IsLiveIn b p) far.0 n far.1,
      λ x l. let old = still x l in (old.0, old.1, live_stays c d q r e k k' a old.0 old.2, live_same c d q r e k k' a old.0 old.2 ∙ old.3, old.4),
    )
