use Rattle.std.proofs.Common.{◌≡◌, ◌≢◌, ◌<◌, ℕ, List, [], ◌∷◌, ◌++◌, Option, Some, None, length, refl, ap, sym, subst, inl, inr, arith}
use Rattle.tg_lists.specs.Promise.Membership.{Contains, Distinct}
use Rattle.tg_lists.proofs.MembershipLemmas.{contains_append}
use Rattle.tg_index.specs.Promise.Rows.{row, first_of}
use Rattle.tg_index.proofs.RowLemmas.{left, none_left, Walked, walk_step, at_cursor}
use Rattle.tg_tests.proofs.index.has.Goals as goal

-- The number is not among those that a walk has passed.
abbrev Lacks : List ℕ → ℕ → Option ℕ → Type 0
Lacks ns n cursor = (w : Walked ns cursor) × (Contains w.passed n → ⊥)

record On (ns : List ℕ) (n m : ℕ) (next : Option ℕ) : Type 0 where
  lacks : Lacks ns n next
  less : length (left ns next) < length (left ns (Some m))

on : (ns : List ℕ) (n m : ℕ) (next : Option ℕ) → Lacks ns n (Some m) → m ≢ n → Distinct ns → ((p r : List ℕ) → ns ≡ p ++ m ∷ r → next ≡ first_of r) → On ns n m next
on ns n m next k other once follows =
    let s = walk_step ns m k.0 once in
    let at : next ≡ first_of s.after = follows k.0.passed s.after s.is in
    let same = ap (λ (c : Option ℕ). length (left ns c)) at in
    let less = s.less in
    record {
      lacks = (
        record { passed = k.0.passed ++ m ∷ []; rest = s.after; is = s.on; at = at },
        λ h. elim (contains_append k.0.passed (m ∷ []) n h) [
          | inl old ↦ k.1 old
          | inr new ↦ elim new [ inl e ↦ other (sym e) | inr never ↦ never ]
        ],
      );
      less = omega (arith, same, less);
    }

end : (ns : List ℕ) (n : ℕ) → Lacks ns n None → Contains ns n → ⊥
end ns n k h = elim (contains_append k.0.passed k.0.rest n (subst (λ (l : List ℕ). Contains l n) k.0.is h)) [
  | inl old ↦ k.1 old
  | inr new ↦ subst (λ (l : List ℕ). Contains l n) (none_left k.0.rest k.0.at) new
]

pub loop-cursor-init : goal.loop-cursor-init
loop-cursor-init c = (record { passed = []; rest = row c.args.index.now.lists c.args.bucket; is = refl; at = c.first-cursor.ensures }, λ h. h)

pub returns-then-current-number : goal.returns-then-current-number
returns-then-current-number c =
    let k = subst (Lacks (row c.args.index.now.lists c.args.bucket) c.args.number) c.in-Some.is c.loop-cursor.invariant in
    subst (λ (n : ℕ). Contains (row c.args.index.now.lists c.args.bucket) n) c.if-current-number.true (at_cursor (row c.args.index.now.lists c.args.bucket) c.in-Some.current k.0)

pub next-cursor-requires : goal.next-cursor-requires
next-cursor-requires c =
    let k = subst (Lacks (row c.args.index.now.lists c.args.bucket) c.args.number) c.in-Some.is c.loop-cursor.invariant in
    record { bucket = c.args.bucket; held = at_cursor (row c.args.index.now.lists c.args.bucket) c.in-Some.current k.0 }

pub loop-cursor-smaller : goal.loop-cursor-smaller
loop-cursor-smaller c =
    let k = subst (Lacks (row c.args.index.now.lists c.args.bucket) c.args.number) c.in-Some.is c.loop-cursor.invariant in
    subst (λ (o : Option ℕ). length (left (row c.args.index.now.lists c.args.bucket) c.next-cursor.result) < length (left (row c.args.index.now.lists c.args.bucket) o)) (sym c.in-Some.is)
    (on (row c.args.index.now.lists c.args.bucket) c.args.number c.in-Some.current c.next-cursor.result k c.if-current-number.false (c.soundness.ensures.once c.args.bucket) (c.next-cursor.ensures c.args.bucket)).less

pub loop-cursor-preserved : goal.loop-cursor-preserved
loop-cursor-preserved c =
    let k = subst (Lacks (row c.args.index.now.lists c.args.bucket) c.args.number) c.in-Some.is c.loop-cursor.invariant in
    (on (row c.args.index.now.lists c.args.bucket) c.args.number c.in-Some.current c.next-cursor.result k c.if-current-number.false (c.soundness.ensures.once c.args.bucket) (c.next-cursor.ensures c.args.bucket)).lacks

pub returns : goal.returns
returns c = end (row c.args.index.now.lists c.args.bucket) c.args.number (subst (Lacks (row c.args.index.now.lists c.args.bucket) c.args.number) c.in_default.is c.loop-cursor.invariant)
