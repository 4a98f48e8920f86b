-- One slot changes: what holds of each slot afterwards, and what keeps each part of the invariant.
use Rattle.std.proofs.Common.{◌≡◌, ◌≢◌, ℕ, ◌<◌, ◌≤◌, List, [], ◌∷◌, length, length-set, map, true, Option, Some, None, ◌⊎◌, inl, inr, sym, ◌∙◌, subst, ap, refl, arith, get_or, get_or-set_same, get_or-set_other}
use Rattle.std.proofs.lemmas.Bool.Decides.{nat_tests}
use Rattle.std.proofs.lemmas.List.{get_or_past}
use Rattle.tg_marking.specs.Promise.Values.{Colour, White, Grey, Black, Has, Edge, Contains, Roots, HasRoot, HasTarget, Spot, Scan, Body, spot, slot_mark, spot_mark, out, spot_edges, slot_serial, spot_serial, IsRootSlot, keeps, seen, Kept, as_kept, kept_in, Stage, Sweep}
use Rattle.tg_marking.specs.Promise.Steps.{put, shade, shade_spot, new_colour}
use Rattle.tg_marking.specs.Promise.Invariant.{LeadsToHeld, Closed, Greys, Covered, ScanFits, Tricolour}

-- A place of a list beyond its end has the default.
pub at_within : {X : Type 0} (xs : List (Option X)) (i : ℕ) (x : X) → get_or xs i None ≡ Some x → i < length xs
at_within xs i x e = grind (arith, get_or_past)

pub contains_mapped : {X Y : Type 0} (f : X → Y) (xs : List X) (y : Y) → Contains (map f xs) y → (x : X) × Contains xs x × (f x ≡ y)
contains_mapped f [] y c = absurd c
contains_mapped f (x ∷ xs) y (inl e) = (x, inl refl, sym e)
contains_mapped f (x ∷ xs) y (inr c) = let r = contains_mapped f xs y c in (r.0, inr r.1, r.2)

-- The slot of a mark, and of what is held.
pub mark_is : (o : Option Spot) (c : Colour) → spot_mark o ≡ Has c → (s : Spot) × (o ≡ Some s) × (s.colour ≡ c)
mark_is o c e = grind arith

pub seen_is : (g : Stage) (i : ℕ) (s : Spot) (k : Kept) → seen g i (Some s) ≡ Some k → (keeps g i s.colour ≡ true) × (as_kept s ≡ k)
seen_is g i s k e = grind arith

pub kept_is : (g : Stage) (i : ℕ) (o : Option Spot) (k : Kept) → seen g i o ≡ Some k → (s : Spot) × (o ≡ Some s) × (keeps g i s.colour ≡ true) × (as_kept s ≡ k)
kept_is g i o k e = grind arith

pub kept_name : (g : Stage) (i : ℕ) (o : Option Spot) (k : Kept) → seen g i o ≡ Some k → spot_serial o ≡ Some k.serial
kept_name g i o k e = grind arith

pub kept_edges : (g : Stage) (i : ℕ) (o : Option Spot) (k : Kept) → seen g i o ≡ Some k → spot_edges o ≡ k.edges
kept_edges g i o k e = grind arith

pub kept_within : (b : Body) (g : Stage) (i : ℕ) (k : Kept) → kept_in b g i ≡ Some k → i < length b.slots
kept_within b g i k e = grind (arith, at_within b.slots i)

pub held_keeps : (b : Body) (g : Stage) (i : ℕ) (k : Kept) → kept_in b g i ≡ Some k → (s : Spot) → spot b i ≡ Some s → keeps g i s.colour ≡ true
held_keeps b g i k h s e = grind arith

pub keeps_grey : (g : Stage) (i : ℕ) → keeps g i Grey ≡ true
keeps_grey g i = grind arith

-- A new vertex is white and held, or black in a slot that the sweep has yet to reach.
pub new_is : (g : Stage) (i : ℕ) → ((new_colour g i ≡ White) × (keeps g i White ≡ true)) ⊎ ((k : ℕ) × (g ≡ Sweep k) × (k ≤ i) × (new_colour g i ≡ Black))
new_is g i = grind (arith, nat_tests)

-- Each slot after one was put: it, or another that stays.
pub put_each : (P : ℕ → Option Spot → Type 0) (b : Body) (i : ℕ) (o : Option Spot) → i < length b.slots → P i o → ((j : ℕ) → j ≢ i → P j (spot b j)) → (j : ℕ) → P j (spot (put b i o) j)
put_each P b i o within here there j = grind (arith, get_or-set_same, get_or-set_other)

-- The store after a slot was shaded: as before, unless the slot was white.
pub shade_rest : (Q : Body → Type 0) (b : Body) (i : ℕ) → (slot_mark b i ≢ Has White → Q b) → ((s : Spot) → spot b i ≡ Some s → s.colour ≡ White → Q (shade_spot b i s White)) → Q (shade b i)
shade_rest Q b i same turned = grind arith

pub shade_each : (P : ℕ → Option Spot → Type 0) (b : Body) (i : ℕ) → ((s : Spot) → spot b i ≡ Some s → s.colour ≡ White → P i (Some (record s { colour = Grey })))
    → ((j : ℕ) → P j (spot b j)) → (j : ℕ) → P j (spot (shade b i) j)
shade_each P b i turned all j = shade_rest (λ c. P j (spot c j)) b i (λ n. all j) (λ s e c. put_each P b i (Some (record s { colour = Grey })) (at_within b.slots i s e) (turned s e c) (λ k n. all k) j)

-- A shaded slot is not white.
pub shade_done : (b : Body) (i : ℕ) → slot_mark (shade b i) i ≢ Has White
shade_done b i = shade_rest (λ c. slot_mark c i ≢ Has White) b i (λ n. n) (λ s e c. let within = at_within b.slots i s e in grind (arith, get_or-set_same))

-- The parts of a shaded slot.
pub shade_marks : (b : Body) (i j : ℕ) → (slot_mark (shade b i) j ≡ slot_mark b j) ⊎ ((slot_mark b j ≡ Has White) × (slot_mark (shade b i) j ≡ Has Grey) × (j ≡ i))
shade_marks b i = shade_each (λ j o. (spot_mark o ≡ slot_mark b j) ⊎ ((slot_mark b j ≡ Has White) × (spot_mark o ≡ Has Grey) × (j ≡ i))) b i (λ s e c. grind arith) (λ j. inl refl)

pub shade_name : (b : Body) (i j : ℕ) → slot_serial (shade b i) j ≡ slot_serial b j
shade_name b i = shade_each (λ j o. spot_serial o ≡ slot_serial b j) b i (λ s e c. ap spot_serial (sym e)) (λ j. refl)

pub shade_roots : (b : Body) (i : ℕ) → (shade b i).roots ≡ b.roots
shade_roots b i = shade_rest (λ (c : Body). c.roots ≡ b.roots) b i (λ n. refl) (λ s e c. refl)

pub shade_size : (b : Body) (i : ℕ) → length (shade b i).slots ≡ length b.slots
shade_size b i = shade_rest (λ (c : Body). length c.slots ≡ length b.slots) b i (λ n. refl) (λ s e c. length-set b.slots i _)

pub black_before : (b : Body) (i j : ℕ) → slot_mark (shade b i) j ≡ Has Black → slot_mark b j ≡ Has Black
black_before b i j w = elim (shade_marks b i j) [ inl same ↦ sym same ∙ w | inr turned ↦ absurd (let g = turned.1 in cc) ]

-- While nothing is swept, a shade leaves what is held; and in the sweep that of a held slot.
pub shade_kept : (b : Body) (g : Stage) (i : ℕ) → ((s : Spot) → spot b i ≡ Some s → s.colour ≡ White → keeps g i White ≡ true) → (j : ℕ) → kept_in (shade b i) g j ≡ kept_in b g j
shade_kept b g i held = shade_each (λ j o. seen g j o ≡ kept_in b g j) b i (λ s e c. let h = held s e c in grind arith) (λ j. refl)

-- The roots of a store whose roots are the same.
pub same_root : (b b' : Body) (i : ℕ) → b'.roots ≡ b.roots → IsRootSlot b' i → IsRootSlot b i
same_root b b' i e r = subst (λ (q : Roots). HasRoot q i) e r

-- What is held, where each slot holds what it held.
pub closed_same : (h h' : ℕ → Option Kept) (R R' : ℕ → Type 0) → ((i : ℕ) → h' i ≡ h i) → ((i : ℕ) → R' i → R i) → Closed h R → Closed h' R'
closed_same h h' R R' same roots c = subst (λ (f : ℕ → Option Kept). Closed f R') (λ k i. sym (same i) k) (record { roots = λ i r. c.roots i (roots i r); edges = c.edges })

-- What is held, where each slot keeps its serial, and its edges are old ones or lead to held slots.
pub closed_moves : (h h' : ℕ → Option Kept) (R R' : ℕ → Type 0) → ((i : ℕ) (t : Kept) → h i ≡ Some t → (t' : Kept) × (h' i ≡ Some t') × (t'.serial ≡ t.serial))
    → ((i : ℕ) (t' : Kept) (e : Edge) → h' i ≡ Some t' → Contains t'.edges e → ((t : Kept) × (d : Edge) × (h i ≡ Some t) × Contains t.edges d × (d.target ≡ e.target) × (d.serial ≡ e.serial)) ⊎ LeadsToHeld h' i e)
    → ((i : ℕ) → R' i → R i ⊎ ((k : Kept) × (h' i ≡ Some k))) → Closed h R → Closed h' R'
closed_moves h h' R R' stays edges roots c = record {
  roots = λ i r. let old = roots i r in let was = c.roots i in grind arith;
  edges = λ i t' e is o. let old = edges i t' e is o in grind arith;
}

-- A shade keeps the greys, and the tricolour invariant.
pub shade_greys : (b : Body) (i : ℕ) (Scanned : ℕ → Type 0) → Greys b Scanned → Greys (shade b i) Scanned
shade_greys b i Scanned g = shade_rest (λ c. Greys c Scanned) b i (λ n. g)
    (λ s e c.
    let was : slot_mark b i ≡ Has White = ap spot_mark e ∙ ap (λ (k : Colour). Has k) c in
    let within = at_within b.slots i s e in
    record {
      waits = λ j w. (let old = g.waits j in grind (arith, get_or-set_same, get_or-set_other));
      once = (λ w. let o = g.waits i w in cc, g.once);
      known = λ j d. (let old = g.known j in grind (arith, get_or-set_same, get_or-set_other));
      scanned = λ j x. (let old = g.scanned j x in grind (arith, get_or-set_same, get_or-set_other));
    })

pub shade_tricolour : (b : Body) (i : ℕ) (s : Option Scan) → Tricolour b s → Tricolour (shade b i) s
shade_tricolour b i s m = record {
  roots = λ j r. covered j (m.roots j (same_root b (shade b i) j (shade_roots b i) r));
  black = λ j e d o. covered e.target (m.black j e (black_before b i j d) (subst (λ (es : List Edge). Contains es e) (old j).1 o));
  scanned = by s m.scanned;
} where
  old : (j : ℕ) → (slot_mark (shade b i) j ≡ Has White → slot_mark b j ≡ Has White) × (out (shade b i) j ≡ out b j)
  old = shade_each (λ j o. (spot_mark o ≡ Has White → slot_mark b j ≡ Has White) × (spot_edges o ≡ out b j)) b i (λ s e c. grind arith) (λ j. (λ w. w, refl))

  covered : (j : ℕ) → Covered b j → Covered (shade b i) j
  covered j c w = subst (λ (q : Roots). HasTarget q j) (sym (shade_roots b i)) (c ((old j).0 w))

  by : (s : Option Scan) → ScanFits b s → ScanFits (shade b i) s
  by None f = tt
  by (Some c) f = record { passed = f.passed; all = (old c.slot).1 ∙ f.all; behind = λ e o. covered e.target (f.behind e o) }

-- A slot that is in no list changes to another colour than grey.
pub put_greys : (b : Body) (i : ℕ) (o : Option Spot) (S S' : ℕ → Type 0) → i < length b.slots → spot_mark o ≢ Has Grey → (Contains b.grey i → ⊥) → ((j : ℕ) → j ≢ i → S j → S' j) → ((j : ℕ) → S' j → S j × (j ≢ i)) → Greys b S → Greys (put b i o) S'
put_greys b i o S S' within dark out only back g = record {
  waits = λ j w. (let old = g.waits j w in grind (arith, get_or-set_same, get_or-set_other));
  once = g.once;
  known = λ j d. (let old = g.known j in let next = only j in grind (arith, get_or-set_same, get_or-set_other));
  scanned = λ j s. (let was = back j s in let old = g.scanned j was.0 in grind (arith, get_or-set_other));
}
