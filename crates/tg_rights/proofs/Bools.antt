-- Tests joined by && and ||.
use Rattle.std.proofs.Common.{◌≡◌, Bool, true, false, T, ◌&&◌, ◌||◌, ◌⊎◌, inl, inr, refl}

pub or_either : (a b : Bool) → (a || b) ≡ true → (a ≡ true) ⊎ (b ≡ true)
or_either true b e = inl refl
or_either false b e = inr e

pub or_cases : {P : Type 0} (a b : Bool) → (a || b) ≡ true → (a ≡ true → P) → (b ≡ true → P) → P
or_cases true b e l r = l refl
or_cases false b e l r = r e

pub or_join : (a b : Bool) → (a ≡ true) ⊎ (b ≡ true) → (a || b) ≡ true
or_join true b e = refl
or_join false b (inl e) = absurd (cc e)
or_join false b (inr e) = e

pub and_both : (a b : Bool) → (a && b) ≡ true → (a ≡ true) × (b ≡ true)
and_both true b e = (refl, e)
and_both false b e = absurd (cc e)

pub true_both : (a b : Bool) → T a → T b → T (a && b)
true_both true b h k = k
true_both false b h k = h

pub true_first : (a b : Bool) → T (a && b) → T a
true_first true b h = tt
true_first false b h = h

pub true_second : (a b : Bool) → T (a && b) → T b
true_second true b h = h
true_second false b h = absurd h

pub true_is : (a : Bool) → T a → a ≡ true
true_is true h = refl
true_is false h = absurd h
