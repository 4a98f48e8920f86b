-- The exact session steps are steps of a run.
use Rattle.std.proofs.Common.{◌≡◌, ℕ, ◌<◌, ◌≤◌, List, [], ◌∷◌, ◌++◌, length, map, Option, Some, None, ◌⊎◌, inl, inr, sym, ◌∙◌, subst, ap, refl, arith}
use Rattle.std.proofs.lemmas.Option.{same_Some}
use Rattle.tg_lists.proofs.MembershipLemmas.{contains_map}
use Rattle.tg_marking.specs.Promise.Values.{Grey, Edge, Contains, Kind, Roots, HasRoot, Spot, Progress, AtRest, Stage, shown, Body, spot, IsRootSlot, seen, Kept, as_kept, kept_in}
use Rattle.tg_marking.specs.Promise.Steps.{put, shade, new_colour, with_seat_target, Reroots, PutsEdge, ShadesTarget, Places, DropsEdge, RewritesEdge}
use Rattle.tg_marking.specs.Promise.Invariant.{Invariant, at_root}
use Rattle.tg_marking.specs.Promise.Runs.{IsLiveOrNew, HadSlot, HadEdge, Mutated, LedTo, Changed, same, shaded, regards, comes, StepsMutate}
use Rattle.tg_marking.proofs.SpotLemmas.{at_within, contains_mapped, seen_is, put_each, shade_each}
use Rattle.tg_marking.proofs.SessionLemmas.{cleared_root, without_one}

-- A step of each slot, of a store whose roots are held.
module _ (b b' : Body) (g : Stage) (next : ℕ) (New To : ℕ → Type 0) (rooted : (i : ℕ) → IsRootSlot b i → (k : Kept) × (kept_in b g i ≡ Some k))
    (news : (x : ℕ) → New x → next ≤ x) (leads : (x : ℕ) → To x → IsLiveOrNew b g next x) (each : (i : ℕ) → Changed g (IsRootSlot b) New To i (spot b i) (spot b' i)) where
  root_kept : (i : ℕ) (s : Spot) → spot b i ≡ Some s → IsRootSlot b i → kept_in b g i ≡ Some (as_kept s)
  root_kept i s at r = let k = rooted i r in grind arith

  spot_had : (i : ℕ) (o p : Option Spot) → spot b i ≡ o → Changed g (IsRootSlot b) New To i o p → (x : Spot) → p ≡ Some x → HadSlot b g i x ⊎ IsLiveOrNew b g next x.serial
  spot_had i _ _ at (same o) x is = inl (i, x, at ∙ is, refl, grind arith, grind arith)
  spot_had i _ _ at (shaded s c r) x is = inr (inl (i, as_kept s, at_root i r, root_kept i s at r, ap (λ (z : Spot). z.serial) (same_Some _ _ is)))
  spot_had i _ _ at (regards s es text led) x is = subst (λ (z : Spot). HadSlot b g i z ⊎ IsLiveOrNew b g next z.serial) (same_Some _ _ is) (inl (i, s, at, refl, grind arith, grind arith))
  spot_had i _ _ at (comes s n colour led) x is = subst (λ (z : Spot). HadSlot b g i z ⊎ IsLiveOrNew b g next z.serial) (same_Some s x is) (inr (inr (news s.serial n)))

  edge_had : (i : ℕ) (o p : Option Spot) → spot b i ≡ o → Changed g (IsRootSlot b) New To i o p → (k : Kept) (e : Edge) → seen g i p ≡ Some k → Contains k.edges e → HadEdge b g k.serial e.serial ⊎ IsLiveOrNew b g next e.serial
  edge_had i _ _ at (same o) k e h c = inl (i, k, e, ap (seen g i) at ∙ h, refl, c, refl)
  edge_had i _ _ at (shaded s w r) k e h c =
      let now = seen_is g i (record s { colour = Grey }) k h in
      inl (i, as_kept s, e, root_kept i s at r, ap (λ (q : Kept). q.serial) now.1, subst (λ (q : Kept). Contains q.edges e) (sym now.1) c, refl)
  edge_had i _ _ at (regards s es text led) k e h c =
      let now = seen_is g i (record s { edges = es; text = text }) k h in
      elim (led e (subst (λ (q : Kept). Contains q.edges e) (sym now.1) c)) [
        | inl old ↦ (let x = contains_mapped (λ (z : Edge). z.serial) s.edges e.serial old in inl (i, as_kept s, x.0, ap (seen g i) at ∙ rw now.0 refl, ap (λ (q : Kept). q.serial) now.1, x.1, x.2))
        | inr to ↦ inr (leads e.serial to)
      ]
  edge_had i _ _ at (comes s n colour led) k e h c = inr (leads e.serial (led e (subst (λ (q : Kept). Contains q.edges e) (sym (seen_is g i s k h).1) c)))

  pub mutated : ((i : ℕ) (k : Kept) → IsRootSlot b' i → kept_in b' g i ≡ Some k → IsLiveOrNew b g next k.serial) → Mutated b g b' next
  mutated roots = record { spots = λ i. spot_had i _ _ refl (each i); roots = roots; edges = λ i. edge_had i _ _ refl (each i) }

  -- No root comes.
  roots_stay : ((i : ℕ) → IsRootSlot b' i → IsRootSlot b i) → Mutated b g b' next
  roots_stay back = mutated (λ i k r h. let old = rooted i (back i r) in inl (i, old.0, at_root i (back i r), old.1, let c = each i in grind arith))

-- One slot changes, and no root.
put_mutates : (b : Body) (p : Progress) (i next : ℕ) (New To : ℕ → Type 0) (o o' : Option Spot) → spot b i ≡ o → i < length b.slots → Changed (shown p) (IsRootSlot b) New To i o o' → ((x : ℕ) → New x → next ≤ x)
    → ((x : ℕ) → To x → IsLiveOrNew b (shown p) next x) → Invariant b p → Mutated b (shown p) (put b i o') next
put_mutates b p i next New To o o' at within change news leads g = roots_stay b (put b i o') (shown p) next New To g.closed.roots news leads
    (put_each (λ n q. Changed (shown p) (IsRootSlot b) New To n (spot b n) q) b i o' within (subst (λ (q : Option Spot). Changed (shown p) (IsRootSlot b) New To i q o') (sym at) change) (λ n other. same (spot b n))) (λ n r. r)

reroots_mutates : (b b' : Body) (p : Progress) (rs : Roots) (next : ℕ) → Reroots b p rs b' → Invariant b p
    → ((i : ℕ) (k : Kept) → HasRoot rs i → kept_in b (shown p) i ≡ Some k → IsRootSlot b i ⊎ IsLiveOrNew b (shown p) next k.serial) → Mutated b (shown p) b' next
reroots_mutates b b' p rs next s g come = rw s.is (mutated b (record b { roots = rs }) (shown p) next (λ x. ⊥) (λ x. ⊥) g.closed.roots (λ x never. absurd never) (λ x never. absurd never) (λ i. same (spot b i))
    (λ i k r h. elim (come i k r h) [ inl old ↦ inl (i, k, at_root i old, h, refl) | inr wanted ↦ wanted ]))

puts_mutates : (b b' : Body) (p : Progress) (i next : ℕ) (new : Edge) → PutsEdge b p i new b' → Invariant b p → (p ≡ AtRest → IsLiveOrNew b (shown p) next new.serial) → Mutated b (shown p) b' next
puts_mutates b b' p i next new s g rest = rw s.is (put_mutates b p i next (λ x. ⊥) (λ x. x ≡ new.serial) (Some s.owner) _ s.at (at_within b.slots i s.owner s.at)
    (regards s.owner (new ∷ s.owner.edges) s.owner.text (λ e c. elim c [ inl is ↦ inr (ap (λ (d : Edge). d.serial) is) | inr old ↦ inl (contains_map (λ (d : Edge). d.serial) s.owner.edges e old) ])) (λ x never. absurd never)
    (λ x is. subst (λ (y : ℕ). IsLiveOrNew b (shown p) next y) (sym is) (elim s.target [ inl t ↦ inl (new.target, s.there.0, at_root new.target (inl t), s.there.1, s.there.2) | inr r ↦ rest r ])) g)

shades_mutates : (b b' : Body) (p : Progress) (seat i next : ℕ) → ShadesTarget b seat i b' → Invariant b p → Mutated b (shown p) b' next
shades_mutates b b' p seat i next s g = rw s.is (roots_stay b (record (shade b i) { roots = with_seat_target b.roots seat None }) (shown p) next (λ x. ⊥) (λ x. ⊥) g.closed.roots (λ x never. absurd never) (λ x never. absurd never)
    (shade_each (λ j o. Changed (shown p) (IsRootSlot b) (λ x. ⊥) (λ x. ⊥) j (spot b j) o) b i
    (λ t e c. subst (λ (o : Option Spot). Changed (shown p) (IsRootSlot b) (λ x. ⊥) (λ x. ⊥) i o (Some (record t { colour = Grey }))) (sym e) (shaded t c (inl (seat, s.was)))) (λ j. same (spot b j)))
    (cleared_root b.roots seat))

places_mutates : (b b' : Body) (p : Progress) (i serial next : ℕ) (kind : Kind) (text : List ℕ) → Places b p i serial kind text b' → Invariant b p → next ≤ serial → Mutated b (shown p) b' next
places_mutates b b' p i serial next kind text s g new = rw s.is (put_mutates b p i next (λ x. x ≡ serial) (λ x. ⊥) None _ s.free s.inside
    (comes (record { serial = serial; kind = kind; text = text; edges = []; colour = new_colour (shown p) i }) refl refl (λ e never. never)) (λ x is. subst (λ (y : ℕ). next ≤ y) (sym is) new) (λ x never. absurd never) g)

-- What is left of a list whose edge gave way leads to serials that the old edges led to.
pub still_lead : (before news after : List Edge) (e : Edge) → ((x : Edge) → Contains news x → (x.target ≡ e.target) × (x.serial ≡ e.serial)) → (x : Edge) → Contains (before ++ (news ++ after)) x → LedTo (before ++ e ∷ after) x
still_lead before news after e alike x c =
    let d = without_one before news after e x alike c in subst (Contains (map (λ (y : Edge). y.serial) (before ++ e ∷ after))) d.3 (contains_map (λ (y : Edge). y.serial) (before ++ e ∷ after) d.0 d.1)

drops_mutates : (b b' : Body) (p p' : Progress) (i : ℕ) (before : List Edge) (e : Edge) (news after : List Edge) (next : ℕ) → DropsEdge b p i before e news after b' p' → Invariant b p → Mutated b (shown p) b' next
drops_mutates b b' p p' i before e news after next s g = rw s.is (put_mutates b p i next (λ x. ⊥) (λ x. ⊥) (Some s.owner) _ s.at (at_within b.slots i s.owner s.at)
    (regards s.owner (before ++ (news ++ after)) s.owner.text (λ x c. inl (subst (λ (l : List Edge). LedTo l x) (sym s.edges) (still_lead before news after e s.alike x c)))) (λ x never. absurd never) (λ x never. absurd never) g)

rewrites_mutates : (b b' : Body) (p : Progress) (i next : ℕ) (text : List ℕ) → RewritesEdge b i text b' → Invariant b p → Mutated b (shown p) b' next
rewrites_mutates b b' p i next text s g = rw s.is (put_mutates b p i next (λ x. ⊥) (λ x. ⊥) (Some s.owner) _ s.at (at_within b.slots i s.owner s.at)
    (regards s.owner s.owner.edges text (λ e c. inl (contains_map (λ (d : Edge). d.serial) s.owner.edges e c))) (λ x never. absurd never) (λ x never. absurd never) g)

pub steps_mutate : StepsMutate
steps_mutate = record { reroots = reroots_mutates; puts_edge = puts_mutates; shades = shades_mutates; places = places_mutates; drops_edge = drops_mutates; rewrites = rewrites_mutates }
