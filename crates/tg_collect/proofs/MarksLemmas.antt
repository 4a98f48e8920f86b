-- A step that begins no cycle changes the mark of one slot at most.
use Rattle.std.proofs.Common.{◌≡◌, ◌≢◌, ℕ, ◌≤◌, List, [], ◌∷◌, length, refl, sym, subst, ◌∙◌, inl, inr, arith}
use Rattle.std.proofs.lemmas.Bool.{cases_eq}
use Rattle.tg_slots.specs.Promise.Table as table
use Rattle.tg_marking.specs.Promise.Values.{Contains}
use Rattle.tg_collect.specs.declared.note.Phase.{Phase}
use Rattle.tg_collect.specs.declared.note.Phase.TheVariants.{Idle}
use Rattle.tg_collect.specs.Promise.Stored.{RootLists}
use Rattle.tg_collect.specs.Promise.Readings.{mark_in, phase}
use Rattle.tg_collect.specs.Promise.Views.{OneMarkAStep, most_marks}

one : (rs : RootLists) (p : Phase) → p ≢ Idle → most_marks rs p ≡ 1
one rs Idle other = absurd (other refl)
one rs _ other = refl

-- what changes is the one element of the list outside of which nothing does
only : (before after : ℕ → table.Mark) (slots : List ℕ) (i : ℕ) → length slots ≤ 1 → ((k : ℕ) → (Contains slots k → ⊥) → after k ≡ before k) → after i ≢ before i → (s : ℕ) × (slots ≡ s ∷ []) × (i ≡ s)
only before after [] i short others differs = absurd (differs (others i (λ none. none)))
only before after (s ∷ []) i short others differs = elim (cases_eq i s) [
  | inl is ↦ (s, refl, is)
  | inr other ↦ absurd (differs (others i (apart other)))
] where
  apart : i ≢ s → Contains (s ∷ []) i → ⊥
  apart other (inl is) = other is
  apart other (inr none) = none
only before after (s ∷ (t ∷ slots)) i short others differs = absurd (omega (arith, short))

pub one_mark : OneMarkAStep
one_mark v w freed ended step busy i j first second =
    let short : length step.marks.slots ≤ 1 = subst (λ k. length step.marks.slots ≤ k) (one v.roots (phase v) busy) step.marks.count in
    let here = only (mark_in v) (mark_in w) step.marks.slots i short step.marks.others first in
    let there = only (mark_in v) (mark_in w) step.marks.slots j short step.marks.others second in
    let lists : here.0 ∷ [] ≡ there.0 ∷ [] = sym here.1 ∙ there.1 in
    let same : here.0 ≡ there.0 = cc lists in
    here.2 ∙ (same ∙ sym there.2)
