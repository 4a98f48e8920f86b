-- Chains of links and the walks over them.
use Rattle.std.proofs.Common.{◌≡◌, ◌≢◌, ℕ, zero, suc, ◌+◌, ◌<◌, ◌≤◌, List, [], ◌∷◌, ◌++◌, length, inl, inr, sym, ◌∙◌, subst, ap, refl, set, get_or, arith, length-set, length-append, get_or-set_same, get_or-set_other, true, false, eqb, eq-eqb}
use Rattle.std.proofs.lemmas.Bool.{ne_eqb}
use Rattle.std.proofs.lemmas.List.{get_or_append_left}
use Rattle.tg_lists.specs.Promise.Membership.{Contains}
use Rattle.tg_slots.specs.Inner.Chain.{walk, IndexChain}

-- A chain that is not longer than the fuel is what the walk gives.
pub walk_chain : (end : ℕ) (links : List ℕ) (n head : ℕ) (l : List ℕ) → length links ≤ end → IndexChain end links head l → length l ≤ n → walk end links n head ≡ l
walk_chain end links zero head [] fits c h = refl
walk_chain end links (suc n) head [] fits c h = let test : eqb head end ≡ true = eq-eqb head end c in rw test refl
walk_chain end links zero head (j ∷ l) fits c h = absurd (omega arith)
walk_chain end links (suc n) head (j ∷ l) fits c h =
    let is : head ≡ j = c.0 in
    let within : j < length links = c.1 in
    let test : eqb head end ≡ false = ne_eqb head end (omega arith) in
    let rest = walk_chain end links n (get_or links j end) l fits c.2 (omega arith) in
    let step : walk end links n (get_or links head end) ≡ l = ap (λ (k : ℕ). walk end links n (get_or links k end)) is ∙ rest in
    rw test (ap (λ (k : ℕ). k ∷ walk end links n (get_or links head end)) is ∙ ap (λ (m : List ℕ). j ∷ m) step)

-- A link of a slot outside the chain may change, or one more is appended.
pub chain_set : (end : ℕ) (links : List ℕ) (i x head : ℕ) (l : List ℕ) → (Contains l i → ⊥) → IndexChain end links head l → IndexChain end (set links i x) head l
chain_set end links i x head [] n c = c
chain_set end links i x head (j ∷ l) n c =
    let other : j ≢ i = λ e. n (inl (sym e)) in
    let within : j < length links = c.1 in
    let size : length (set links i x) ≡ length links = length-set links i x in
    let same : get_or (set links i x) j end ≡ get_or links j end = get_or-set_other links i j x end other in
    (c.0, omega arith, subst (λ (o : ℕ). IndexChain end (set links i x) o l) (sym same) (chain_set end links i x (get_or links j end) l (λ h. n (inr h)) c.2))

pub chain_more : (end : ℕ) (links : List ℕ) (x head : ℕ) (l : List ℕ) → IndexChain end links head l → IndexChain end (links ++ x ∷ []) head l
chain_more end links x head [] c = c
chain_more end links x head (j ∷ l) c =
    let within : j < length links = c.1 in
    let size : length (links ++ x ∷ []) ≡ length links + length (x ∷ []) = length-append links (x ∷ []) in
    (c.0, omega arith, subst (λ (o : ℕ). IndexChain end (links ++ x ∷ []) o l) (sym (get_or_append_left links (x ∷ []) end j c.1)) (chain_more end links x (get_or links j end) l c.2))

-- A slot outside the chain is put in front.
pub chain_push : (end : ℕ) (links : List ℕ) (i head : ℕ) (l : List ℕ) → i < length links → (Contains l i → ⊥) → IndexChain end links head l → IndexChain end (set links i head) i (i ∷ l)
chain_push end links i head l w n c =
    let size : length (set links i head) ≡ length links = length-set links i head in
    (refl, omega arith, subst (λ (o : ℕ). IndexChain end (set links i head) o l) (sym (get_or-set_same links i head end w)) (chain_set end links i head head l n c))

-- The first of a chain, and the rest.
pub record First (end : ℕ) (links : List ℕ) (i : ℕ) (l : List ℕ) : Type 0 where
  pub rest : List ℕ
  pub is : l ≡ i ∷ rest
  pub chain : IndexChain end links (get_or links i end) rest

pub chain_first : (end : ℕ) (links : List ℕ) (i : ℕ) (l : List ℕ) → i < end → IndexChain end links i l → First end links i l
chain_first end links i [] w c = absurd (let is : i ≡ end = c in omega arith)
chain_first end links i (j ∷ l) w c =
    record { rest = l; is = ap (λ (k : ℕ). k ∷ l) (sym c.0); chain = subst (λ (k : ℕ). IndexChain end links (get_or links k end) l) (sym c.0) c.2 }

-- A head past the slots ends its chain.
pub chain_past : (end : ℕ) (links : List ℕ) (head : ℕ) (l : List ℕ) → length links ≤ head → IndexChain end links head l → l ≡ []
chain_past end links head [] past c = refl
chain_past end links head (j ∷ l) past c = absurd (let first : head ≡ j = c.0 in let within : j < length links = c.1 in omega arith)
