-- The session steps keep the invariant.
use Rattle.std.proofs.Common.{◌≡◌, ◌≢◌, ℕ, ◌<◌, ◌≤◌, List, [], ◌∷◌, ◌++◌, length, get_or, set, length-set, get_or-set_same, get_or-set_other, true, Option, Some, None, ◌⊎◌, inl, inr, sym, ◌∙◌, subst, ap, refl, arith}
use Rattle.std.proofs.lemmas.Bool.Decides.{nat_tests}
use Rattle.std.proofs.lemmas.List.{append_assoc, append_cancel_right}
use Rattle.tg_lists.proofs.MembershipLemmas.{contains_append, contains_left, contains_right, contains_middle}
use Rattle.tg_marking.specs.Promise.Values.{Colour, White, Grey, Black, Has, Edge, Contains, Distinct, Kind, Scan, Spot, Progress, AtRest, Marking, Sweeping, Body, Roots, HasRoot, HasTarget, shown, spot, slot_mark, spot_mark, out, spot_edges, slot_serial, spot_serial, IsRootSlot, IsTarget, keeps, seen, seen, Kept, as_kept, kept_in, Stage}
use Rattle.tg_marking.specs.Promise.Steps.{put, shade, new_colour, with_seat_target, Reroots, PutsEdge, ShadesTarget, Places, Trims, elsewhere, passed, ahead, DropsEdge, RewritesEdge}
use Rattle.tg_marking.specs.Promise.Invariant.{LeadsToHeld, IsScanned, Greys, Covered, ScanFits, Tricolour, Phased, Invariant}
use Rattle.tg_marking.proofs.SpotLemmas.{at_within, seen_is, kept_edges, held_keeps, new_is, put_each, shade_done, shade_marks, shade_name, shade_roots, shade_kept, black_before, same_root, closed_same, closed_moves, shade_greys, shade_tricolour}

-- What a step but a shade does to a slot: it stays, its edges or text change, or a vertex comes into the new slot. Each
-- edge was there, or one to the same vertex was, or it leads to a held slot, a target unless the collector rests.
abbrev pub Like : List Edge → Edge → Type 0
Like es x = (d : Edge) × Contains es d × (d.target ≡ x.target) × (d.serial ≡ x.serial)

data Moves (b : Body) (p : Progress) (new n : ℕ) : Option Spot → Option Spot → Type 0 where
  rests : (o : Option Spot) → Moves b p new n o o
  regards : (s : Spot) (es : List Edge) (text : List ℕ) → ((x : Edge) → Contains es x → Like s.edges x ⊎ (LeadsToHeld (kept_in b (shown p)) n x × (IsTarget b x.target ⊎ (p ≡ AtRest))))
      → Moves b p new n (Some s) (Some (record s { edges = es; text = text }))
  arrives : (s : Spot) → n ≡ new → ((j : ℕ) → slot_serial b j ≢ Some s.serial) → s.edges ≡ [] → s.colour ≡ new_colour (shown p) n → Moves b p new n None (Some s)

-- What it does to the scan: what is passed of the slot's edges afterwards is like what was, or leads to a target.
abbrev Goes : Body → (es es' rest rest' : List Edge) → Type 0
Goes b es es' rest rest' = (done : List Edge) → es ≡ done ++ rest → (passed : List Edge) × (es' ≡ passed ++ rest') × ((x : Edge) → Contains passed x → Like done x ⊎ IsTarget b x.target)

data ScanMoves (b b' : Body) : Progress → Progress → Type 0 where
  keeps_on : (p : Progress) → ((s : Scan) → p ≡ Marking (Some s) → Goes b (out b s.slot) (out b' s.slot) s.rest s.rest) → ScanMoves b b' p p
  goes_on : (i : ℕ) (rest rest' : List Edge) → Goes b (out b i) (out b' i) rest rest' → ScanMoves b b' (Marking (Some (record { slot = i; rest = rest }))) (Marking (Some (record { slot = i; rest = rest' })))

same_edges : (b : Body) (es es' rest : List Edge) → es' ≡ es → Goes b es es' rest rest
same_edges b es es' rest same done e = (done, same ∙ e, λ x o. inl (x, o, refl, refl))

same_phase : (b b' : Body) (p p' : Progress) → ScanMoves b b' p p' → (shown p' ≡ shown p) × (IsScanned p' ≡ IsScanned p)
same_phase b b' _ _ (keeps_on p move) = (refl, refl)
same_phase b b' _ _ (goes_on i rest rest' move) = (refl, refl)

abbrev changed : Body → List (Option Spot) → Roots → Body
changed b os rs = record { slots = os; grey = b.grey; roots = rs }

record Moved (b : Body) (p p' : Progress) (os : List (Option Spot)) (rs : Roots) : Type 0 where
  new : ℕ
  slots : (n : ℕ) → Moves b p new n (spot b n) (get_or os n None)
  comes : (i : ℕ) → HasRoot rs i → IsRootSlot b i ⊎ ((HasTarget rs i ⊎ (p ≡ AtRest)) × (k : Kept) × (kept_in b (shown p) i ≡ Some k))
  stays : (i : ℕ) → slot_mark b i ≡ Has White → IsTarget b i → HasTarget rs i
  scan : ScanMoves b (changed b os rs) p p'

module _ (b : Body) (p p' : Progress) (os : List (Option Spot)) (rs : Roots) (m : Moved b p p' os rs) (g : Invariant b p) where
  abbrev b' : Body
  b' = changed b os rs

  -- Marks and names.
  marked : (c : Colour) (n : ℕ) (o o' : Option Spot) → Moves b p m.new n o o' → spot_mark o' ≡ Has c → (spot_mark o ≡ Has c) ⊎ ((o ≡ None) × ((c ≡ White) ⊎ ((k : ℕ) × (p ≡ Sweeping k) × (k ≤ n) × (c ≡ Black))))
  marked c n o o' t d = let u = new_is (shown p) n in grind arith

  mark_stays : (c : Colour) (n : ℕ) (o o' : Option Spot) → Moves b p m.new n o o' → spot_mark o ≡ Has c → spot_mark o' ≡ Has c
  mark_stays c n o o' t d = grind arith

  grey_before : (n : ℕ) → slot_mark b' n ≡ Has Grey → slot_mark b n ≡ Has Grey
  grey_before n d = let u = marked Grey n _ _ (m.slots n) d in grind arith

  named : (n x : ℕ) (o o' : Option Spot) → Moves b p m.new n o o' → spot_serial o' ≡ Some x → (spot_serial o ≡ Some x) ⊎ ((n ≡ m.new) × ((j : ℕ) → slot_serial b j ≢ Some x))
  named n x o o' t e = grind arith

  -- What is held, and what its edges lead to.
  seen_same : (n : ℕ) (o : Option Spot) → seen (shown p') n o ≡ seen (shown p) n o
  seen_same n o = ap (λ h. seen h n o) (same_phase b b' p p' m.scan).0

  forward : (n : ℕ) (o o' : Option Spot) → Moves b p m.new n o o' → (t : Kept) → seen (shown p) n o ≡ Some t → (t' : Kept) × (seen (shown p') n o' ≡ Some t') × (t'.serial ≡ t.serial)
  forward n o o' move t h = let a = seen_same n o in let c = seen_same n o' in grind arith

  backward : (n : ℕ) (o o' : Option Spot) → Moves b p m.new n o o' → spot b n ≡ o → (t' : Kept) (x : Edge) → seen (shown p') n o' ≡ Some t' → Contains t'.edges x
      → ((t : Kept) × (d : Edge) × (kept_in b (shown p) n ≡ Some t) × Contains t.edges d × (d.target ≡ x.target) × (d.serial ≡ x.serial)) ⊎ LeadsToHeld (kept_in b' (shown p')) n x
  backward n _ _ (rests o) at t' x h c = inl (t', x, ap (seen (shown p) n) at ∙ sym (seen_same n o) ∙ h, c, refl, refl)
  backward n _ _ (regards s es text like) at t' x h c =
      let r = seen_is (shown p) n (record s { edges = es; text = text }) t' (sym (seen_same n (Some (record s { edges = es; text = text }))) ∙ h) in
      elim (like x (subst (λ (k : Kept). Contains k.edges x) (sym r.1) c)) [
        | inl old ↦ inl (as_kept s, old.0, ap (seen (shown p) n) at ∙ rw r.0 refl, old.1, old.2, old.3)
        | inr (l, t) ↦ (let k = forward x.target _ _ (m.slots x.target) l.0 l.1 in inr (k.0, k.1, k.2 ∙ l.2, l.3))
      ]
  backward n _ _ (arrives s is fresh bare colour) at t' x h c = absurd (subst (λ (es : List Edge). Contains es x) (sym (kept_edges (shown p') n (Some s) t' h) ∙ bare) c)

  -- What is held and covered stays covered.
  covered : (j : ℕ) (k : Kept) → kept_in b (shown p) j ≡ Some k → Covered b j → Covered b' j
  covered j k h c = let u = marked White j _ _ (m.slots j) in let s = m.stays j in grind arith

  aimed : (j : ℕ) → IsTarget b j → Covered b' j
  aimed j t = let k = g.closed.roots j (inl t) in let c = covered j k.0 k.1 in grind arith

  module _ (c : Option Scan) (is : p ≡ Marking c) (f : Tricolour b c) where
    led : (n : ℕ) (o : Option Spot) → spot b n ≡ o → (d : Edge) → Contains (spot_edges o) d → Covered b d.target → Covered b' d.target
    led n None at d o = absurd o
    led n (Some s) at d o = let l = g.closed.edges n (as_kept s) d (rw (is, at) refl) o in covered d.target l.0 l.1

    blackened : (n : ℕ) (o o' : Option Spot) → Moves b p m.new n o o' → spot b n ≡ o → (x : Edge) → spot_mark o' ≡ Has Black → Contains (spot_edges o') x → Covered b' x.target
    blackened n _ _ (rests o) at x d c = led n o at x c (f.black n x (ap spot_mark at ∙ d) (subst (λ (q : Option Spot). Contains (spot_edges q) x) (sym at) c))
    blackened n _ _ (regards s es text like) at x d c = elim (like x c) [
      | inl (y, o, e, serial) ↦ subst (Covered b') e (led n (Some s) at y o (f.black n y (ap spot_mark at ∙ d) (subst (λ (q : Option Spot). Contains (spot_edges q) y) (sym at) o)))
      | inr (l, inl t) ↦ aimed x.target t
      | inr (l, inr rest) ↦ absurd (cc)
    ]
    blackened n _ _ (arrives s here fresh bare colour) at x d c = absurd (subst (λ (es : List Edge). Contains es x) bare c)

    tricolour : (d : Option Scan) → ScanFits b' d → Tricolour b' d
    tricolour d fits = record {
      roots = λ i r. elim (m.comes i r) [ inl old ↦ (let k = g.closed.roots i old in covered i k.0 k.1 (f.roots i old)) | inr (inl t, k, h) ↦ (λ w. t) | inr (inr rest, k, h) ↦ absurd (cc) ];
      black = λ n x d o. blackened n _ _ (m.slots n) refl x d o;
      scanned = fits;
    }

  goes : (i : ℕ) (rest rest' : List Edge) → p ≡ Marking (Some (record { slot = i; rest = rest })) → Tricolour b (Some (record { slot = i; rest = rest })) → Goes b (out b i) (out b' i) rest rest'
      → Tricolour b' (Some (record { slot = i; rest = rest' }))
  goes i rest rest' is f move = let r = move f.scanned.passed f.scanned.all in tricolour _ is f _ (record {
    passed = r.0;
    all = r.1;
    behind = λ x o. elim (r.2 x o) [
      | inl (d, c, e, serial) ↦ subst (Covered b') e (led _ is f i _ refl d (subst (λ (l : List Edge). Contains l d) (sym f.scanned.all) (contains_left f.scanned.passed rest d c)) (f.scanned.behind d c))
      | inr target ↦ aimed x.target target
    ];
  })

  phase : (q q' : Progress) → p ≡ q → ScanMoves b b' q q' → Phased b q → Phased b' q'
  phase _ _ is (keeps_on AtRest move) f = λ n d. let u = marked Black n _ _ (m.slots n) d in let w = f n in grind arith
  phase _ _ is (keeps_on (Sweeping k) move) f = (
    λ n h d. let u = marked Black n _ _ (m.slots n) d in let w = f.0 n h in grind arith,
    λ n h d. f.1 n h (grey_before n d),
  )
  phase _ _ is (keeps_on (Marking None) move) f = tricolour None is f None tt
  phase _ _ is (keeps_on (Marking (Some s)) move) f = goes s.slot s.rest s.rest is f (move s refl)
  phase _ _ is (goes_on i rest rest' move) f = goes i rest rest' is f move

  moved : Invariant b' p'
  moved = record {
    closed = closed_moves (kept_in b (shown p)) (kept_in b' (shown p')) (IsRootSlot b) (IsRootSlot b') (λ n t h. forward n _ _ (m.slots n) t h) (λ n t' x h c. backward n _ _ (m.slots n) refl t' x h c)
        (λ i r. elim (m.comes i r) [ inl old ↦ inl old | inr (_, k, h) ↦ (let n = forward i _ _ (m.slots i) k h in inr (n.0, n.1)) ]) g.closed;
    once = λ a c x h l. let u = named a x _ _ (m.slots a) h in let v = named c x _ _ (m.slots c) l in let w = g.once a c x in grind arith;
    greys = subst (Greys b') (sym (same_phase b b' p p' m.scan).1) (record {
      waits = λ n w. mark_stays Grey n _ _ (m.slots n) (g.greys.waits n w);
      once = g.greys.once;
      known = λ n d. g.greys.known n (grey_before n d);
      scanned = λ n x. let y = g.greys.scanned n x in (mark_stays Grey n _ _ (m.slots n) y.0, y.1);
    });
    phase = phase p p' refl m.scan g.phase;
  }

-- Roots come and go.
pub reroots_keeps : (b b' : Body) (p : Progress) (rs : Roots) → Reroots b p rs b' → Invariant b p → Invariant b' p
reroots_keeps b b' p rs s g = rw s.is (moved b p p b.slots rs (record {
  new = 0;
  slots = λ n. rests (spot b n);
  comes = s.comes;
  stays = s.stays;
  scan = keeps_on p (λ c is. same_edges b _ _ c.rest refl);
}) g)

-- A target whose place was not set stays one; so does any if the place had none.
target_stays : (r : Roots) (k : ℕ) (v : Option ℕ) (i : ℕ) → (t : HasTarget r i) → t.0 ≢ k → HasTarget (with_seat_target r k v) i
target_stays r k v i (j, e) n = (j, get_or-set_other r.targets k j v None n ∙ e)

pub idle_stays : (r : Roots) (k : ℕ) (v : Option ℕ) (i : ℕ) → get_or r.targets k None ≡ None → HasTarget r i → HasTarget (with_seat_target r k v) i
idle_stays r k v i none t = target_stays r k v i t (let h = t.1 in grind arith)

-- A held slot is shaded.
shade_keeps : (b : Body) (p : Progress) (i : ℕ) (k : Kept) → kept_in b (shown p) i ≡ Some k → Invariant b p → Invariant (shade b i) p
shade_keeps b p i k held g = record {
  closed = closed_same (kept_in b (shown p)) (kept_in (shade b i) (shown p)) (IsRootSlot b) (IsRootSlot (shade b i)) (shade_kept b (shown p) i white) (λ j r. same_root b (shade b i) j (shade_roots b i) r) g.closed;
  once = λ a c x h l. g.once a c x (sym (shade_name b i a) ∙ h) (sym (shade_name b i c) ∙ l);
  greys = shade_greys b i (IsScanned p) g.greys;
  phase = by p white g.phase;
} where
  white : (s : Spot) → spot b i ≡ Some s → s.colour ≡ White → keeps (shown p) i White ≡ true
  white s e c = ap (keeps (shown p) i) (sym c) ∙ held_keeps b (shown p) i k held s e

  by : (p : Progress) → ((s : Spot) → spot b i ≡ Some s → s.colour ≡ White → keeps (shown p) i White ≡ true) → Phased b p → Phased (shade b i) p
  by AtRest w f = λ j d. f j (black_before b i j d)
  by (Marking s) w f = shade_tricolour b i s f
  by (Sweeping k) w f = (
    λ j h d. f.0 j h (black_before b i j d),
    λ j h d. let u = shade_marks b i j in let v = f.1 j h in grind (arith, nat_tests),
  )

-- A root after a seat's target was cleared was one before.
pub cleared_root : (r : Roots) (seat i : ℕ) → HasRoot (with_seat_target r seat None) i → HasRoot r i
cleared_root r seat i (inl (n, e)) = inl (n, let w = at_within (set r.targets seat None) n i e in grind (arith, get_or-set_same, get_or-set_other, length-set))
cleared_root r seat i (inr c) = inr c

-- The session shades its target, and clears it.
pub shades_keeps : (b b' : Body) (p : Progress) (seat i : ℕ) → ShadesTarget b seat i b' → Invariant b p → Invariant b' p
shades_keeps b b' p seat i s g =
    let k = g.closed.roots i (inl (seat, s.was)) in
    reroots_keeps (shade b i) b' p (with_seat_target b.roots seat None) (record {
      comes = λ j r. inl (subst (λ (q : Roots). HasRoot q j) (sym (shade_roots b i)) (cleared_root b.roots seat j r));
      stays = λ j w t. let u : HasTarget b.roots j = subst (λ (q : Roots). HasTarget q j) (shade_roots b i) t in target_stays b.roots seat None j u (let at = u.1 in let was = s.was in let done = shade_done b i in grind arith);
      is = s.is;
    }) (shade_keeps b p i k.0 k.1 g)

-- One slot changes.
put_keeps : (b : Body) (p p' : Progress) (i : ℕ) (o o' : Option Spot) → spot b i ≡ o → i < length b.slots → Moves b p i i o o' → ScanMoves b (put b i o') p p' → Invariant b p → Invariant (put b i o') p'
put_keeps b p p' i o o' at within move scan g = moved b p p' (set b.slots i o') b.roots (record {
  new = i;
  slots = put_each (λ n q. Moves b p i n (spot b n) q) b i o' within (subst (λ (q : Option Spot). Moves b p i i q o') (sym at) move) (λ n other. rests (spot b n));
  comes = λ j r. inl r;
  stays = λ j w t. t;
  scan = scan;
}) g

-- A held slot's edges lead to a seat's target first.
pub puts_keeps : (b b' : Body) (p : Progress) (i : ℕ) (new : Edge) → PutsEdge b p i new b' → Invariant b p → Invariant b' p
puts_keeps b b' p i new s g = rw s.is (put_keeps b p p i (Some s.owner) (Some (record s.owner { edges = new ∷ s.owner.edges })) s.at within (regards s.owner (new ∷ s.owner.edges) s.owner.text like) (keeps_on p scan) g)
  where
    within : i < length b.slots
    within = at_within b.slots i s.owner s.at

    like : (x : Edge) → Contains (new ∷ s.owner.edges) x → Like s.owner.edges x ⊎ (LeadsToHeld (kept_in b (shown p)) i x × (IsTarget b x.target ⊎ (p ≡ AtRest)))
    like x (inl is) = inr (subst (λ (e : Edge). LeadsToHeld (kept_in b (shown p)) i e × (IsTarget b e.target ⊎ (p ≡ AtRest))) (sym is) ((s.there.0, s.there.1, s.there.2, s.apart), s.target))
    like x (inr c) = inl (x, c, refl, refl)

    scan : (c : Scan) → p ≡ Marking (Some c) → Goes b (out b c.slot) (out (put b i (Some (record s.owner { edges = new ∷ s.owner.edges }))) c.slot) c.rest c.rest
    scan c is = put_each (λ n o. Goes b (out b n) (spot_edges o) c.rest c.rest) b i _ within
        (λ done e. (
          new ∷ done,
          ap (λ (l : List Edge). new ∷ l) (ap spot_edges (sym s.at) ∙ e),
          λ x o. elim o [
            | inl first ↦ inr (subst (λ (y : Edge). IsTarget b y.target) (sym first) (elim s.target [ inl t ↦ t | inr rest ↦ absurd (cc) ]))
            | inr old ↦ inl (x, old, refl, refl)
          ],
        )) (λ n other. same_edges b (out b n) (out b n) c.rest refl) c.slot

-- An edge leaves its list, or its label changes.
pub without_one : (p news r : List Edge) (e x : Edge) → ((y : Edge) → Contains news y → (y.target ≡ e.target) × (y.serial ≡ e.serial)) → Contains (p ++ (news ++ r)) x → Like (p ++ e ∷ r) x
without_one p news r e x alike c = elim (contains_append p (news ++ r) x c) [
  | inl l ↦ (x, contains_left p (e ∷ r) x l, refl, refl)
  | inr l ↦ elim (contains_append news r x l) [
    | inl n ↦ (let a = alike x n in (e, contains_middle p r e, sym a.0, sym a.1))
    | inr k ↦ (x, contains_right p (e ∷ r) x (inr k), refl, refl)
  ]
]

pub trims_stage : (i : ℕ) (before : List Edge) (e : Edge) (news after : List Edge) (p p' : Progress) → Trims i before e news after p p' → shown p' ≡ shown p
trims_stage i before e news after p p' t = grind arith

pub drops_keeps : (b b' : Body) (p p' : Progress) (i : ℕ) (before : List Edge) (e : Edge) (news after : List Edge) → DropsEdge b p i before e news after b' p' → Invariant b p → Invariant b' p'
drops_keeps b b' p p' i before e news after s g = rw s.is (put_keeps b p p' i (Some s.owner) (Some owner) s.at (at_within b.slots i s.owner s.at)
    (regards s.owner (before ++ (news ++ after)) s.owner.text (λ x c. inl (subst (λ (l : List Edge). Like l x) (sym s.edges) (without_one before news after e x s.alike c)))) (scan p p' s.stage) g)
  where
    owner : Spot
    owner = record s.owner { edges = before ++ (news ++ after) }

    old_edges : out b i ≡ before ++ e ∷ after
    old_edges = ap spot_edges s.at ∙ s.edges

    new_edges : out (put b i (Some owner)) i ≡ before ++ (news ++ after)
    new_edges = ap spot_edges (get_or-set_same b.slots i (Some owner) None (at_within b.slots i s.owner s.at))

    scan : (q q' : Progress) → Trims i before e news after q q' → ScanMoves b (put b i (Some owner)) q q'
    scan _ _ (elsewhere q n) = keeps_on q (λ c is. same_edges b _ _ c.rest (ap spot_edges (get_or-set_other b.slots i c.slot (Some owner) None (λ x. n c is (sym x)))))
    scan _ _ (passed rest mid a) = goes_on i rest rest (λ done w. (
      before ++ (news ++ mid),
      new_edges ∙ ap (λ (l : List Edge). before ++ (news ++ l)) a ∙ ap (λ (l : List Edge). before ++ l) (sym (append_assoc news mid rest)) ∙ sym (append_assoc before (news ++ mid) rest),
      λ x o. inl (subst (λ (l : List Edge). Like l x) (sym (append_cancel_right done (before ++ e ∷ mid) rest (sym w ∙ old_edges ∙ ap (λ (l : List Edge). before ++ e ∷ l) a ∙ sym (append_assoc before (e ∷ mid) rest)))) (without_one before news mid e x s.alike o)),
    ))
    scan _ _ (ahead mid first d) = goes_on i _ _ (λ done w. (
      done,
      new_edges ∙ ap (λ (l : List Edge). l ++ (news ++ after)) d ∙ append_assoc first mid (news ++ after)
          ∙ ap (λ (l : List Edge). l ++ (mid ++ (news ++ after))) (sym (append_cancel_right done first (mid ++ e ∷ after) (sym w ∙ old_edges ∙ ap (λ (l : List Edge). l ++ e ∷ after) d ∙ append_assoc first mid (e ∷ after)))),
      λ x o. inl (x, o, refl, refl),
    ))

-- A text is replaced.
pub rewrites_keeps : (b b' : Body) (p : Progress) (i : ℕ) (text : List ℕ) → RewritesEdge b i text b' → Invariant b p → Invariant b' p
rewrites_keeps b b' p i text s g =
    let within = at_within b.slots i s.owner s.at in
    rw s.is (put_keeps b p p i (Some s.owner) (Some (record s.owner { text = text })) s.at within (regards s.owner s.owner.edges text (λ x c. inl (x, c, refl, refl)))
    (keeps_on p (λ c is. put_each (λ n o. Goes b (out b n) (spot_edges o) c.rest c.rest) b i _ within (same_edges b _ _ c.rest (ap spot_edges (sym s.at))) (λ n o. same_edges b _ _ c.rest refl) c.slot)) g)

-- A vertex without edges comes into a free slot, where it is held.
pub new_keeps : (g : Stage) (i : ℕ) → keeps g i (new_colour g i) ≡ true
new_keeps g i = let u = new_is g i in grind arith

pub places_keeps : (b b' : Body) (p : Progress) (i serial : ℕ) (kind : Kind) (text : List ℕ) → Places b p i serial kind text b' → Invariant b p
    → Invariant b' p × (kept_in b' (shown p) i ≡ Some (record { serial = serial; kind = kind; text = text; edges = [] }))
places_keeps b b' p i serial kind text s g = rw s.is (
  put_keeps b p p i None (Some vertex) s.free s.inside (arrives vertex refl s.new refl refl)
      (keeps_on p (λ c is. put_each (λ n o. Goes b (out b n) (spot_edges o) c.rest c.rest) b i _ s.inside (same_edges b _ _ c.rest (ap spot_edges (sym s.free))) (λ n o. same_edges b _ _ c.rest refl) c.slot)) g,
  ap (seen (shown p) i) (get_or-set_same b.slots i (Some vertex) None s.inside) ∙ rw (new_keeps (shown p) i) refl,
) where
  vertex : Spot
  vertex = record { serial = serial; kind = kind; text = text; edges = []; colour = new_colour (shown p) i }

-- Nothing is there.
pub blank_keeps : (b : Body) → ((i : ℕ) → spot b i ≡ None) → b.grey ≡ [] → ((i : ℕ) → IsRootSlot b i → ⊥) → Invariant b AtRest
blank_keeps b none grey bare = record {
  closed = record { roots = λ i r. absurd (bare i r); edges = λ i k e h o. let u = none i in grind arith };
  once = λ i j x h l. let u = none i in grind arith;
  greys = record {
    waits = λ i w. absurd (subst (λ (l : List ℕ). Contains l i) grey w);
    once = subst Distinct (sym grey) tt;
    known = λ i d. let u = none i in grind arith;
    scanned = λ i x. absurd x;
  };
  phase = λ i d. let u = none i in grind arith;
}
