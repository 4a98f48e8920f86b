-- What is left of a cycle falls with each collector step, and no session step raises it; and how much is in use.
use Rattle.std.proofs.Common.{◌≡◌, ◌≢◌, ℕ, zero, suc, ◌+◌, ◌*◌, ◌<◌, ◌≤◌, List, [], ◌∷◌, ◌++◌, length, map, length-set, length-append, get_or-set_same, get_or-set_other, Bool, true, false, cond, nat_lt, Option, Some, None, ◌⊎◌, inl, inr, ◌∙◌, subst, ap, refl, arith}
use Rattle.std.proofs.lemmas.Bool.{le-ltb}
use Rattle.std.proofs.lemmas.Bool.Decides.{nat_tests}
use Rattle.std.proofs.lemmas.List.{length-map}
use Rattle.tg_lists.proofs.MembershipLemmas.{contains_map, few}
use Rattle.tg_marking.specs.Promise.Values.{White, Grey, Has, Edge, Contains, Distinct, Kind, Roots, Spot, Progress, AtRest, Marking, Sweeping, Body, spot, slot_mark, out, keeps, as_kept, kept_in, Sweep, shown, total, free_one, parked_one}
use Rattle.tg_marking.specs.Promise.Steps.{put, shade, shade_all, new_colour, Line, starts, scans, blackens, takes, shades_target, starts_sweep, skips, whitens, strips, frees, finishes, PutsEdge, Places, DropsEdge, RewritesEdge, Trims, ahead}
use Rattle.tg_marking.specs.Promise.Invariant.{Invariant, LeadsToHeld}
use Rattle.tg_marking.specs.Promise.Left.{weight, slot_left, phase_left, parked_cells, bound, left, Celled, LinesAreBounded, held_one, held_cells, AreSlotsCounted, NeverRaises}
use Rattle.tg_marking.proofs.SpotLemmas.{at_within, contains_mapped, mark_is, put_each, kept_within, held_keeps, shade_each, shade_done, shade_size, shade_marks}
use Rattle.tg_marking.proofs.KeepLemmas.{line_collected}

-- Two functions, of which one is below the other but perhaps at one number.
total_one : (f g : ℕ → ℕ) (n j : ℕ) → ((i : ℕ) → i ≢ j → f i ≤ g i) → total f n + cond (nat_lt j n) (g j) 0 ≤ total g n + cond (nat_lt j n) (f j) 0
total_one f g zero j h = grind (arith, nat_tests)
total_one f g (suc n) j h = let rest = total_one f g n j h in let last = h n in grind (arith, nat_tests)

total_le : (f g : ℕ → ℕ) (n : ℕ) → ((i : ℕ) → f i ≤ g i) → total f n ≤ total g n
total_le f g n h = let u = total_one f g n n (λ i x. h i) in grind (arith, nat_tests)

total_same : (n c : ℕ) → total (λ i. c) n ≡ n * c
total_same zero c = omega arith
total_same (suc n) c = omega (arith, total_same n c)

total_two : (f g k : ℕ → ℕ) (n : ℕ) → ((i : ℕ) → f i + g i ≡ k i) → total f n + total g n ≡ total k n
total_two f g k zero e = refl
total_two f g k (suc n) e = omega (arith, total_two f g k n e, e n)

-- A grey slot has fewer edges than there are slots: they lead to other slots, each to its own.
distinct_by : {X : Type 0} (f g : X → ℕ) (xs : List X) → ((x y : X) → Contains xs x → Contains xs y → g x ≡ g y → f x ≡ f y) → Distinct (map f xs) → Distinct (map g xs)
distinct_by f g [] h d = tt
distinct_by f g (x ∷ xs) h d = (
  λ c. let m = contains_mapped g xs (g x) c in d.0 (subst (Contains (map f xs)) (h m.0 x (inr m.1) (inl refl) m.2) (contains_map f xs m.0 m.1)),
  distinct_by f g xs (λ y z a b. h y z (inr a) (inr b)) d.1,
)

out_few : (b : Body) (p : Progress) (i : ℕ) → Invariant b p → slot_mark b i ≡ Has Grey → Distinct (map (λ (e : Edge). e.serial) (out b i)) → length (out b i) < length b.slots
out_few b p i g grey once =
    let s = mark_is (spot b i) Grey grey in
    let held : kept_in b (shown p) i ≡ Some (as_kept s.0) = (let at = s.1 in let c = s.2 in grind arith) in
    let leads : (e : Edge) → Contains (out b i) e → LeadsToHeld (kept_in b (shown p)) i e = λ e o. g.closed.edges i (as_kept s.0) e held (rw s.1 at o) in
    let apart = distinct_by (λ (e : Edge). e.serial) (λ (e : Edge). e.target) (out b i)
    (λ x y c d same. let a = leads x c in let z = leads y d in grind arith) once in
    let all = few (length b.slots) (i ∷ map (λ (e : Edge). e.target) (out b i))
    (λ c. let m = contains_mapped (λ (e : Edge). e.target) (out b i) i c in (leads m.0 m.1).3 m.2, apart)
    (λ x c. elim c [
      | inl is ↦ rw is (at_within b.slots i s.0 s.1)
      | inr o ↦ (let m = contains_mapped (λ (e : Edge). e.target) (out b i) x o in let l = leads m.0 m.1 in rw m.2 at (kept_within b (shown p) m.0.target l.0 l.1))
    ]) in
    omega (arith, all, length-map (out b i) (λ (e : Edge). e.target))

-- What is left, where no slot has more left, and where one slot's part changes.
left_le : (b b' : Body) (p p' : Progress) (cells d : ℕ) → length b'.slots ≡ length b.slots → phase_left (length b.slots) cells p' + d ≤ phase_left (length b.slots) cells p
    → ((i : ℕ) → slot_left (length b.slots) p' i (spot b' i) ≤ slot_left (length b.slots) p i (spot b i)) → left cells b' p' + d ≤ left cells b p
left_le b b' p p' cells d size less each =
    rw size (omega (arith, less, total_le (λ i. slot_left (length b.slots) p' i (spot b' i)) (λ i. slot_left (length b.slots) p i (spot b i)) (length b.slots) each))

left_one : (b b' : Body) (p p' : Progress) (i cells d : ℕ) → length b'.slots ≡ length b.slots → i < length b.slots
    → phase_left (length b.slots) cells p' + slot_left (length b.slots) p' i (spot b' i) + d ≤ phase_left (length b.slots) cells p + slot_left (length b.slots) p i (spot b i)
    → ((j : ℕ) → j ≢ i → slot_left (length b.slots) p' j (spot b' j) ≤ slot_left (length b.slots) p j (spot b j)) → left cells b' p' + d ≤ left cells b p
left_one b b' p p' i cells d size within less others =
    let u = total_one (λ i. slot_left (length b.slots) p' i (spot b' i)) (λ i. slot_left (length b.slots) p i (spot b i)) (length b.slots) i others in
    rw size (grind (arith, nat_tests))

left_put : (b : Body) (p p' : Progress) (i cells d : ℕ) (o : Option Spot) → i < length b.slots
    → phase_left (length b.slots) cells p' + slot_left (length b.slots) p' i o + d ≤ phase_left (length b.slots) cells p + slot_left (length b.slots) p i (spot b i)
    → ((j : ℕ) → j ≢ i → slot_left (length b.slots) p' j (spot b j) ≤ slot_left (length b.slots) p j (spot b j)) → left cells (put b i o) p' + d ≤ left cells b p
left_put b p p' i cells d o within less others = left_one b (put b i o) p p' i cells d (length-set b.slots i _) within (rw (get_or-set_same b.slots i o None within) less)
    (λ j n. rw (get_or-set_other b.slots i j o None n) (others j n))

-- A shade raises no part; a slot weighs no more than a white one; and parked cells are some of all.
shade_left : (b : Body) (p : Progress) (size i j : ℕ) → slot_left size p j (spot (shade b i) j) ≤ slot_left size p j (spot b j)
shade_left b p size i = shade_each (λ j o. slot_left size p j o ≤ slot_left size p j (spot b j)) b i (λ s e c. grind arith) (λ j. omega arith)

weights_most : (b : Body) (size : ℕ) → total (λ i. weight size (slot_mark b i)) size ≤ size * (size + 2)
weights_most b size = omega (arith, total_le (λ i. weight size (slot_mark b i)) (λ i. size + 2) size (λ i. grind arith), total_same size (size + 2))

parked_few : (b : Body) (p : Progress) (cells : ℕ) → Celled b cells → total (λ i. parked_cells (shown p) i (spot b i)) (length b.slots) ≤ cells
parked_few b p cells h = omega (arith, total_le (λ i. parked_cells (shown p) i (spot b i)) (λ i. length (out b i)) (length b.slots) (λ i. grind arith), h.few)

parked_next : (k i : ℕ) (o : Option Spot) → i ≢ k → parked_cells (Sweep (k + 1)) i o ≤ parked_cells (Sweep k) i o
parked_next k i o n = grind (arith, nat_tests)

line_less : (b b' : Body) (p p' : Progress) (n cells : ℕ) (e : Bool) → Line b p b' p' n e → e ≡ false → Invariant b p → Celled b cells → left cells b' p' + 1 ≤ left cells b p
line_less b _ _ _ _ cells _ starts o g h =
    rw (line_collected b _ AtRest (Marking None) 0 false starts g).size (omega (arith, weights_most (shade_all b b.roots.others) (length b.slots)))
line_less b _ p p' _ cells _ (scans i e r) o g h =
    left_le b (shade b e.target) p p' cells 1 (shade_size b e.target) (omega arith) (shade_left b (Marking None) (length b.slots) e.target)
line_less b _ p p' _ cells _ (blackens i s is) o g h = left_put b p p' i cells 1 _ (at_within b.slots i s is) (rw (g.greys.scanned i refl).0 (omega arith)) (λ j n. omega arith)
line_less b _ p p' _ cells _ (takes i rest l) o g h =
    let grey = g.greys.waits i (rw l (inl refl)) in
    let most = out_few b (Marking None) i g grey (h.once i) in
    left_le b (record b { grey = rest }) p p' cells 1 refl (omega (arith, most)) (λ j. omega arith)
line_less b _ p p' _ cells _ (shades_target k i l r w least) o g h =
    left_one b (shade b i) p p' i cells 1 (shade_size b i) (let s = mark_is (spot b i) White w in at_within b.slots i s.0 s.1)
    (elim (shade_marks b i i) [ inl same ↦ absurd (shade_done b i (same ∙ w)) | inr turned ↦ rw (turned.0, turned.1) (omega arith) ])
    (λ j n. shade_left b (Marking None) (length b.slots) i j)
line_less b _ _ _ _ cells _ (starts_sweep l t) o g h = omega (arith, parked_few b (Sweeping 0) cells h)
line_less b _ p p' _ cells _ (skips k l is) o g h = left_one b b p p' k cells 1 refl l (rw is (omega (arith, l))) (λ j n. parked_next k j (spot b j) n)
line_less b _ p p' _ cells _ (whitens k s is c) o g h =
    let within = at_within b.slots k s is in left_put b p p' k cells 1 _ within (grind (arith, nat_tests)) (λ j n. parked_next k j (spot b j) n)
line_less b _ p p' _ cells _ (strips k s e r is c m) o g h =
    left_put b p p' k cells 1 _ (at_within b.slots k s is) (rw (is, c, le-ltb k k (omega arith), m) (omega arith)) (λ j n. omega arith)
line_less b _ p p' _ cells _ (frees k s is c m) o g h =
    let within = at_within b.slots k s is in left_put b p p' k cells 1 None within (omega (arith, within)) (λ j n. parked_next k j (spot b j) n)
line_less b _ _ _ _ cells _ (finishes k l) o g h = absurd (cc)

pub left_most : (b : Body) (p : Progress) (cells : ℕ) → Invariant b p → Celled b cells → left cells b p ≤ bound (length b.slots) cells
left_most b AtRest cells g h = omega (arith, total_same (length b.slots) 0)
left_most b (Marking None) cells g h = omega (arith, weights_most b (length b.slots))
left_most b (Marking (Some s)) cells g h =
    let most = out_few b (Marking (Some s)) s.slot g (g.greys.scanned s.slot refl).0 (h.once s.slot) in
    omega (arith, weights_most b (length b.slots), most, ap length g.phase.scanned.all, length-append g.phase.scanned.passed s.rest)
left_most b (Sweeping k) cells g h = omega (arith, parked_few b (Sweeping k) cells h)

pub left_some : (b : Body) (p : Progress) (cells : ℕ) → 1 ≤ left cells b p
left_some b p cells = grind arith

pub bounded : LinesAreBounded
bounded = record { lower = λ b b' p p' n cells l g h. omega (arith, line_less b b' p p' n cells false l refl g h); most = left_most; some = left_some }

-- What session steps leave of a cycle: a vertex that is held may change, and one may lose edges.
pub same_roots : (b : Body) (p : Progress) (cells : ℕ) (rs : Roots) → left cells (record b { roots = rs }) p ≡ left cells b p
same_roots b p cells rs = refl

pub left_shade : (b : Body) (p : Progress) (i cells : ℕ) → left cells (shade b i) p ≤ left cells b p
left_shade b p i cells = omega (arith, left_le b (shade b i) p p cells 0 (shade_size b i) (omega arith) (shade_left b p (length b.slots) i))

left_regards : (b : Body) (p : Progress) (i cells : ℕ) (s : Spot) (es : List Edge) (text : List ℕ) → spot b i ≡ Some s → (keeps (shown p) i s.colour ≡ true) ⊎ (length es ≤ length s.edges)
    → left cells (put b i (Some (record s { edges = es; text = text }))) p ≤ left cells b p
left_regards b p i cells s es text at fewer =
    omega (arith, left_put b p p i cells 0 (Some (record s { edges = es; text = text })) (at_within b.slots i s at) (grind arith) (λ j n. omega arith))

pub left_puts : (b b' : Body) (p : Progress) (i cells : ℕ) (new : Edge) → PutsEdge b p i new b' → left cells b' p ≤ left cells b p
left_puts b b' p i cells new s = rw s.is (left_regards b p i cells s.owner (new ∷ s.owner.edges) s.owner.text s.at (inl (held_keeps b (shown p) i s.held.0 s.held.1 s.owner s.at)))

pub left_places : (b b' : Body) (p : Progress) (i serial cells : ℕ) (kind : Kind) (text : List ℕ) → Places b p i serial kind text b' → left cells b' p ≤ left cells b p
left_places b b' p i serial cells kind text s = rw s.is (omega (
  arith,
  left_put b p p i cells 0 (Some (record { serial = serial; kind = kind; text = text; edges = []; colour = new_colour (shown p) i })) s.inside (rw s.free (grind arith)) (λ j n. omega arith),
))

pub left_rewrites : (b b' : Body) (p : Progress) (i cells : ℕ) (text : List ℕ) → RewritesEdge b i text b' → left cells b' p ≡ left cells b p
left_rewrites b b' p i cells text s = rw (s.is, length-set b.slots i (Some new)) (ap (λ f. phase_left (length b.slots) cells p + total f (length b.slots)) (λ t j. still j t)) where
  new : Spot
  new = record s.owner { text = text }

  still : (j : ℕ) → slot_left (length b.slots) p j (spot (put b i (Some new)) j) ≡ slot_left (length b.slots) p j (spot b j)
  still = put_each (λ j o. slot_left (length b.slots) p j o ≡ slot_left (length b.slots) p j (spot b j)) b i (Some new) (at_within b.slots i s.owner s.at) (rw s.at (grind arith)) (λ j n. refl)

pub left_drops : (b b' : Body) (p p' : Progress) (i : ℕ) (before : List Edge) (e : Edge) (news after : List Edge) (cells : ℕ) → DropsEdge b p i before e news after b' p' → length news ≤ 1 → left cells b' p' ≤ left cells b p
left_drops b b' p p' i before e news after cells s one = rw s.is (by p p' s.stage) where
  new : Body
  new = put b i (Some (record s.owner { edges = before ++ (news ++ after) }))

  shorter : (xs : List Edge) → length (xs ++ (news ++ after)) ≤ length (xs ++ e ∷ after)
  shorter xs = simp length-append (omega (arith, one))

  first : (q : Progress) → left cells new q ≤ left cells b q
  first q = left_regards b q i cells s.owner (before ++ (news ++ after)) s.owner.text s.at (inr (rw s.edges (shorter before)))

  by : (q q' : Progress) → Trims i before e news after q q' → left cells new q' ≤ left cells b q
  by q q' (ahead mid done d) = omega (arith, first q, left_le new new q q' cells 0 refl (omega (arith, shorter mid)) (λ j. omega arith))
  by q _ t = first q

pub never_raises : NeverRaises
never_raises = record { roots = same_roots; shades = left_shade; puts_edge = left_puts; places = left_places; drops_edge = left_drops; rewrites = left_rewrites }

pub counted : AreSlotsCounted
counted = record {
  slots = λ b g.
      let used = total_two (λ i. free_one (spot b i)) (λ i. held_one (kept_in b g i)) (λ i. free_one (spot b i) + held_one (kept_in b g i)) (length b.slots) (λ i. refl) in
      let all = total_two (λ i. free_one (spot b i) + held_one (kept_in b g i)) (λ i. parked_one g i (spot b i)) (λ i. 1) (length b.slots) (λ i. grind arith) in
      omega (arith, used, all, total_same (length b.slots) 1);
  cells = λ b g. total_two (λ i. held_cells (kept_in b g i)) (λ i. parked_cells g i (spot b i)) (λ i. length (out b i)) (length b.slots) (λ i. grind arith);
}
