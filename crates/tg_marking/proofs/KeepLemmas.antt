-- Each line of the table keeps the invariant, and does to each slot what callers see.
use Rattle.std.proofs.Common.{◌≡◌, ◌≢◌, ℕ, ◌+◌, ◌<◌, ◌≤◌, List, [], ◌∷◌, ◌++◌, length, length-set, append_assoc, Bool, true, false, Option, Some, None, ◌⊎◌, inl, inr, sym, ◌∙◌, subst, ap, refl, arith, set}
use Rattle.std.proofs.lemmas.Bool.{lt-ltb, le-ltb}
use Rattle.std.proofs.lemmas.Bool.Decides.{nat_tests}
use Rattle.std.proofs.lemmas.List.{append-nil, set-get_or}
use Rattle.tg_lists.proofs.MembershipLemmas.{contains_append, contains_middle}
use Rattle.tg_marking.specs.Promise.Values.{White, Grey, Black, Has, Edge, Contains, Distinct, Roots, HasTarget, Spot, Scan, Progress, AtRest, Marking, Sweeping, Body, spot, slot_mark, spot_mark, out, spot_edges, spot_serial, IsRootSlot, IsTarget, seen, Kept, kept_in, Stage, Mark, Sweep, shown}
use Rattle.tg_marking.specs.Promise.Steps.{put, shade, shade_all, Line, starts, scans, blackens, takes, shades_target, starts_sweep, skips, whitens, strips, frees, finishes}
use Rattle.tg_marking.specs.Promise.Invariant.{LeadsToHeld, IsScanned, Greys, Covered, Phased, Invariant, at_root, along, IsLive}
use Rattle.tg_marking.specs.Promise.Collected.{IsCalled, SlotTurns, stays, greys as turns_grey, blackens as turns_black, whitens as turns_white, strips as loses_edge, frees as turns_free, Stays, Follows, begins, marks, parks, sweeps, passes, ends, BodyCollected, without_grey}
use Rattle.tg_marking.proofs.SpotLemmas.{at_within, mark_is, kept_edges, put_each, shade_each, shade_done, shade_roots, shade_size, shade_marks, same_root, closed_same, shade_greys, shade_tricolour, put_greys}

abbrev Keeps : Body → Progress → Body → Progress → Bool → Type 0
Keeps b p b' p' e = Invariant b' p' × BodyCollected (without_grey b) (shown p) (without_grey b') (shown p') e

pub turns_name : (b : Body) (g : Stage) (i x : ℕ) (o o' : Option Spot) → SlotTurns (IsCalled b) g i o o' → spot_serial o' ≡ Some x → spot_serial o ≡ Some x
turns_name b g i x o o' t e = grind arith

-- A line that leaves what is held, which all do but the one that starts the sweep.
keeps_by : (b b' : Body) (p p' : Progress) (e : Bool) → Stays (shown p) (shown p') → Follows (length b.slots) (shown p) (shown p') e → b'.roots ≡ b.roots → length b'.slots ≡ length b.slots
    → ((i : ℕ) → SlotTurns (IsCalled b) (shown p) i (spot b i) (spot b' i)) → ((i : ℕ) → kept_in b' (shown p') i ≡ kept_in b (shown p) i) → Greys b' (IsScanned p') → Phased b' p' → Invariant b p → Keeps b p b' p' e
keeps_by b b' p p' e stay follows roots size turns held greys phase g = (
  record {
    closed = closed_same (kept_in b (shown p)) (kept_in b' (shown p')) (IsRootSlot b) (IsRootSlot b') held (λ i r. same_root b b' i roots r) g.closed;
    once = λ i j x h k. g.once i j x (turns_name b (shown p) i x (spot b i) (spot b' i) (turns i) h) (turns_name b (shown p) j x (spot b j) (spot b' j) (turns j) k);
    greys = greys;
    phase = phase;
  },
  record {
    phases = follows;
    roots = roots;
    size = size;
    turns = turns;
    held = λ y. held;
    parks = λ a c. absurd (subst (Stays Mark) c (subst (λ (q : Stage). Stays q (shown p')) a stay));
  },
)

-- What shading slots leaves: each slot is as it was, or it was white, is called for, and turned grey.
record Shades (b c : Body) (Called Scanned : ℕ → Type 0) : Type 0 where
  roots : c.roots ≡ b.roots
  size : length c.slots ≡ length b.slots
  slots : (j : ℕ) → (spot c j ≡ spot b j) ⊎ ((s : Spot) × (spot b j ≡ Some s) × (s.colour ≡ White) × (spot c j ≡ Some (record s { colour = Grey })) × Called j)
  greys : Greys b Scanned → Greys c Scanned

shades_all : (b : Body) (rs : List (Option ℕ)) (Called Scanned : ℕ → Type 0) → ((i : ℕ) → Contains rs (Some i) → Called i) → Shades b (shade_all b rs) Called Scanned
shades_all b [] Called Scanned called = record { roots = refl; size = refl; slots = λ j. inl refl; greys = λ g. g }
shades_all b (None ∷ rs) Called Scanned called = shades_all b rs Called Scanned (λ i m. called i (inr m))
shades_all b (Some i ∷ rs) Called Scanned called =
    let c = shade_all b rs in
    let k = shades_all b rs Called Scanned (λ j m. called j (inr m)) in
    record {
      roots = shade_roots c i ∙ k.roots;
      size = shade_size c i ∙ k.size;
      slots = shade_each (λ j o. (o ≡ spot b j) ⊎ ((s : Spot) × (spot b j ≡ Some s) × (s.colour ≡ White) × (o ≡ Some (record s { colour = Grey })) × Called j)) c i
          (λ s e w. let old = k.slots i in let call = called i (inl refl) in grind arith) k.slots;
      greys = λ g. shade_greys c i Scanned (k.greys g);
    }

all_dark : (b : Body) (rs : List (Option ℕ)) (i : ℕ) → Contains rs (Some i) → slot_mark (shade_all b rs) i ≢ Has White
all_dark b [] i c w = absurd c
all_dark b (None ∷ rs) i c w = let rest = all_dark b rs i in grind arith
all_dark b (Some j ∷ rs) i c w =
    let rest = all_dark b rs i in let done = shade_done (shade_all b rs) j in let marks = shade_marks (shade_all b rs) j i in grind arith

-- The lines that shade.
shades_keep : (b c : Body) (p : Progress) (t : Option Scan) → Stays (shown p) Mark → ((k : ℕ) → shown p ≢ Sweep k) → ((j : ℕ) (o : Option Spot) → seen Mark j o ≡ seen (shown p) j o)
    → Follows (length b.slots) (shown p) Mark false → Greys b (IsScanned (Marking t)) → Shades b c (IsCalled b) (IsScanned (Marking t)) → Phased c (Marking t) → Invariant b p → Keeps b p c (Marking t) false
shades_keep b c p t stay marking same follows grey k phase g = keeps_by b c p (Marking t) false stay follows k.roots k.size
    (λ j. elim (k.slots j) [ inl is ↦ rw is (stays (spot b j)) | inr (s, is, w, now, called) ↦ rw (is, now) (turns_grey s w marking called) ])
    (λ j. let old = k.slots j in let like = same j in grind arith) (k.greys grey) phase g

-- The lines of the sweep, which change the slot that it is at, and move on or not.
swept_keeps : (b : Body) (k m : ℕ) (o : Option Spot) → k < length b.slots → k ≤ m → m ≤ k + 1 → Follows (length b.slots) (Sweep k) (Sweep m) false → SlotTurns (IsCalled b) (Sweep k) k (spot b k) o
    → seen (Sweep m) k o ≡ kept_in b (Sweep k) k → spot_mark o ≢ Has Black → spot_mark o ≢ Has Grey → Invariant b (Sweeping k) → Keeps b (Sweeping k) (put b k o) (Sweeping m) false
swept_keeps b k m o within low high follows turns held black grey g = keeps_by b (put b k o) (Sweeping k) (Sweeping m) false tt follows refl (length-set b.slots k o)
    (put_each (λ j q. SlotTurns (IsCalled b) (Sweep k) j (spot b j) q) b k o within turns (λ j n. stays (spot b j)))
    (put_each (λ j q. seen (Sweep m) j q ≡ kept_in b (Sweep k) j) b k o within held (λ j n. grind (arith, nat_tests)))
    (put_greys b k o (λ j. ⊥) (λ j. ⊥) within grey (λ w. g.phase.1 k (omega arith) (g.greys.waits k w)) (λ j n x. x) (λ j x. absurd x) g.greys) (
      put_each (λ i q. i < m → spot_mark q ≢ Has Black) b k o within (λ h. black) (λ i n h. g.phase.0 i (omega (arith, h, n, high))),
      put_each (λ i q. m ≤ i → spot_mark q ≢ Has Grey) b k o within (λ h. grey) (λ i n h. g.phase.1 i (omega (arith, h, n, low))),
    ) g

-- The step into the sweep: what is held afterwards was black, and what is black stays held.
module _ (b : Body) (g : Invariant b (Marking None)) (l : b.grey ≡ []) (t : (i : ℕ) → IsTarget b i → slot_mark b i ≡ Has White → ⊥) where
  not_grey : (i : ℕ) → slot_mark b i ≢ Has Grey
  not_grey i d = elim (g.greys.known i d) [ inl w ↦ subst (λ (xs : List ℕ). Contains xs i) l w | inr bad ↦ bad ]

  was_black : (i : ℕ) (k : Kept) → kept_in b (Sweep 0) i ≡ Some k → (kept_in b Mark i ≡ Some k) × (slot_mark b i ≡ Has Black)
  was_black i k h = let n = not_grey i in grind (arith, nat_tests)

  held_black : (i : ℕ) (k : Kept) → kept_in b Mark i ≡ Some k → Covered b i → (slot_mark b i ≡ Has Black) × (kept_in b (Sweep 0) i ≡ Some k)
  held_black i k h c = let n = not_grey i in let w = t i in grind arith

  -- What a black slot's edges lead to is black, and stays held.
  next_black : (i : ℕ) (k : Kept) (e : Edge) → slot_mark b i ≡ Has Black → kept_in b Mark i ≡ Some k → Contains k.edges e → (slot_mark b e.target ≡ Has Black) × LeadsToHeld (kept_in b (Sweep 0)) i e
  next_black i k e d h o =
      let there = g.closed.edges i k e h o in
      let black = held_black e.target there.0 there.1 (g.phase.black i e d (subst (λ (es : List Edge). Contains es e) (sym (kept_edges Mark i (spot b i) k h)) o)) in
      (black.0, (there.0, black.1, there.2, there.3))

  live_black : (i : ℕ) → IsLive b Mark i → slot_mark b i ≡ Has Black
  live_black i (at_root _ r) = let k = g.closed.roots i r in (held_black i k.0 k.1 (g.phase.roots i r)).0
  live_black _ (along i k e r h o) = (next_black i k e (live_black i r) h o).0

  parks_keeps : Keeps b (Marking None) b (Sweeping 0) false
  parks_keeps = (
    record {
      closed = record {
        roots = λ i r. let k = g.closed.roots i r in (k.0, (held_black i k.0 k.1 (g.phase.roots i r)).1);
        edges = λ i k e h o. let old = was_black i k h in (next_black i k e old.1 old.0 o).1;
      };
      once = g.once;
      greys = g.greys;
      phase = (λ i h d. omega (arith, h), λ i h. not_grey i);
    },
    record {
      phases = parks;
      roots = refl;
      size = refl;
      turns = λ i. stays (spot b i);
      held = λ y. absurd y;
      parks = λ a c. record {
        same = λ i. refl;
        stays = was_black;
        no_grey = not_grey;
        black = λ i d. grind arith;
        parked = λ i w. grind (arith, nat_tests);
        all = λ i k h d. (let n = not_grey i in grind (arith, nat_tests));
        unreached = live_black;
      };
    },
  )

pub lines : (b b' : Body) (p p' : Progress) (n : ℕ) (e : Bool) → Line b p b' p' n e → Invariant b p → Keeps b p b' p' e
lines b _ _ _ _ _ starts g =
    let k = shades_all b b.roots.others (IsCalled b) (λ j. ⊥) (λ i m. inl (inr m)) in
    shades_keep b (shade_all b b.roots.others) AtRest None tt (λ k e. cc) (λ j o. refl) begins g.greys k (record {
      roots = λ i r w. elim (same_root b (shade_all b b.roots.others) i k.roots r) [ inl t ↦ subst (λ (q : Roots). HasTarget q i) (sym k.roots) t | inr c ↦ absurd (all_dark b b.roots.others i c w) ];
      black = λ i e d o. absurd (let old = k.slots i in let n = g.phase i in grind arith);
      scanned = tt;
    }) g
lines b _ _ _ _ _ (scans i e r) g =
    let s = mark_is (spot b i) Grey (g.greys.scanned i refl).0 in
    let mine : Contains s.0.edges e = subst (λ (es : List Edge). Contains es e) (sym g.phase.scanned.all ∙ ap spot_edges s.1) (contains_middle g.phase.scanned.passed r e) in
    let m = shade_tricolour b e.target (Some (record { slot = i; rest = e ∷ r })) g.phase in
    shades_keep b (shade b e.target) (Marking (Some (record { slot = i; rest = e ∷ r }))) (Some (record { slot = i; rest = r })) tt (λ k e. cc) (λ j o. refl) marks g.greys
    (shades_all b (Some e.target ∷ []) (IsCalled b) (λ j. j ≡ i) (λ j m. inr (i, s.0, e, s.1, s.2, mine, grind arith)))
    (record {
      roots = m.roots;
      black = m.black;
      scanned = record {
        passed = m.scanned.passed ++ e ∷ [];
        all = m.scanned.all ∙ sym (append_assoc m.scanned.passed (e ∷ []) r);
        behind = λ x o. (let parts = contains_append m.scanned.passed (e ∷ []) x o in let old = m.scanned.behind x in let done = shade_done b e.target in grind arith);
      };
    }) g
lines b _ _ _ _ _ (blackens i s is) g =
    let black : Option Spot = Some (record s { colour = Black }) in
    let within = at_within b.slots i s is in
    let passed : (e : Edge) → Contains s.edges e → Contains g.phase.scanned.passed e
    = λ e. subst (λ (es : List Edge). Contains es e) (sym (ap spot_edges is) ∙ g.phase.scanned.all ∙ append-nil g.phase.scanned.passed) in
    let white = put_each (λ j o. spot_mark o ≡ Has White → slot_mark b j ≡ Has White) b i black within (λ w. absurd (cc)) (λ j n w. w) in
    keeps_by b (put b i black) (Marking (Some (record { slot = i; rest = [] }))) (Marking None) false tt marks refl (length-set b.slots i _)
    (put_each (λ j o. SlotTurns (IsCalled b) Mark j (spot b j) o) b i black within (rw is (turns_black s (let m = (g.greys.scanned i refl).0 in let k = ap spot_mark is in cc) refl)) (λ j n. stays (spot b j)))
    (put_each (λ j o. seen Mark j o ≡ kept_in b Mark j) b i black within (rw is refl) (λ j n. refl))
    (put_greys b i black (λ j. j ≡ i) (λ j. ⊥) within (λ e. cc) (g.greys.scanned i refl).1 (λ j n e. n e) (λ j x. absurd x) g.greys)
    (record {
      roots = λ j r w. g.phase.roots j r (white j w);
      black = λ j e d o w. put_each (λ j q. spot_mark q ≡ Has Black → Contains (spot_edges q) e → Covered b e.target) b i black within (λ d o. g.phase.scanned.behind e (passed e o)) (λ j n d o. g.phase.black j e d o) j d o (white e.target w);
      scanned = tt;
    }) g
lines b _ _ _ _ _ (takes i rest l) g =
    let all : Distinct (i ∷ rest) = subst (λ (xs : List ℕ). Distinct xs) l g.greys.once in
    let waits : (j : ℕ) → Contains (i ∷ rest) j → slot_mark b j ≡ Has Grey = λ j w. g.greys.waits j (subst (λ (xs : List ℕ). Contains xs j) (sym l) w) in
    keeps_by b (record b { grey = rest }) (Marking None) (Marking (Some (record { slot = i; rest = out b i }))) false tt marks refl refl (λ j. stays (spot b j)) (λ j. refl)
    (record {
      waits = λ j w. waits j (inr w);
      once = all.1;
      known = λ j d. (let old = g.greys.known j d in grind arith);
      scanned = λ j is. (waits j (inl is), λ w. all.0 (subst (Contains rest) is w));
    })
    (record { roots = g.phase.roots; black = g.phase.black; scanned = record { passed = []; all = refl; behind = λ e o. absurd o } }) g
lines b _ _ _ _ _ (shades_target k i l r w least) g =
    shades_keep b (shade b i) (Marking None) None tt (λ k e. cc) (λ j o. refl) marks g.greys (shades_all b (Some i ∷ []) (IsCalled b) (λ j. ⊥) (λ j m. inl (inl (k, grind arith)))) (shade_tricolour b i None g.phase) g
lines b _ _ _ _ _ (starts_sweep l t) g = parks_keeps b g l t
lines b _ _ _ _ _ (skips k l is) g =
    subst (λ (xs : List (Option Spot)). Keeps b (Sweeping k) (record b { slots = xs }) (Sweeping (k + 1)) false) (ap (set b.slots k) (sym is) ∙ set-get_or b.slots k None)
    (swept_keeps b k (k + 1) None l (omega arith) (omega arith) (passes k) (rw is (stays None)) (rw is refl) (λ e. cc) (λ e. cc) g)
lines b _ _ _ _ _ (whitens k s is c) g =
    swept_keeps b k (k + 1) (Some (record s { colour = White })) (at_within b.slots k s is) (omega arith) (omega arith) (passes k) (rw is (turns_white s c refl))
    (rw (is, c, lt-ltb k (k + 1) (omega arith)) refl) (λ e. cc) (λ e. cc) g
lines b _ _ _ _ _ (strips k s e r is c m) g =
    swept_keeps b k k (Some (record s { edges = r })) (at_within b.slots k s is) (omega arith) (omega arith) (sweeps k) (rw is (loses_edge s e r c refl m))
    (rw (is, c, le-ltb k k (omega arith)) refl) (λ e. cc) (λ e. cc) g
lines b _ _ _ _ _ (frees k s is c m) g =
    swept_keeps b k (k + 1) None (at_within b.slots k s is) (omega arith) (omega arith) (passes k) (rw is (turns_free s c refl m))
    (rw (is, c, le-ltb k k (omega arith)) refl) (λ e. cc) (λ e. cc) g
lines b _ _ _ _ _ (finishes k l) g = keeps_by b b (Sweeping k) AtRest true tt (ends k l) refl refl (λ i. stays (spot b i)) (λ j. grind (arith, nat_tests, at_within b.slots j)) g.greys
    (λ i d. let f = g.phase.0 i in grind (arith, at_within b.slots i)) g

pub line_keeps : (b b' : Body) (p p' : Progress) (n : ℕ) (e : Bool) → Line b p b' p' n e → Invariant b p → Invariant b' p'
line_keeps b b' p p' n e l g = (lines b b' p p' n e l g).0

pub line_collected : (b b' : Body) (p p' : Progress) (n : ℕ) (e : Bool) → Line b p b' p' n e → Invariant b p → BodyCollected (without_grey b) (shown p) (without_grey b') (shown p') e
line_collected b b' p p' n e l g = (lines b b' p p' n e l g).1
