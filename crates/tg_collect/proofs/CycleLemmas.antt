-- Steps of the machine, one after another.
use Rattle.std.proofs.Common.{◌≡◌, ℕ, ◌+◌, ◌*◌, ◌<◌, ◌≤◌, length, inl, inr, false, subst, arith, refl, sym, mul-le-mul}
use Rattle.tg_collect.proofs.Common.{cycle_bound, IsHeap, Machine, slot_count, Steps, Stored, stored, Whole}
use Rattle.tg_collect.specs.declared.machine.Progress as declared
use Rattle.tg_collect.specs.Promise.Runs.{Collecting, Cycled, begins, steps}
use Rattle.tg_collect.specs.Inner.Cycles.{MOST_STEPS, Went, steps_left}
use Rattle.tg_collect.specs.Inner.Machine.{so_far}
use Rattle.tg_collect.proofs.EdgesLemmas.{is_store}
use Rattle.tg_collect.proofs.SlotLemmas.{zip_size}
use Rattle.tg_collect.proofs.LineLemmas.{collected, whole_steps}

-- A machine whose collector is as far as it is.
pub as_far : (m : Machine) (p : declared.Progress) → m.progress ≡ p → so_far m p ≡ m
as_far m p is = λ i. record m { progress = sym is i }

pub whole_from : (m : Machine) (p : declared.Progress) → m.progress ≡ p → Whole m → Whole (so_far m p)
whole_from m p is w = subst Whole (sym (as_far m p is)) w

pub went_from : (m n : Machine) (p : declared.Progress) (freed k : ℕ) → m.progress ≡ p → Went (so_far m p) n freed k → Went m n freed k
went_from m n p freed k is w = subst (λ a. Went a n freed k) (as_far m p is) w

-- The same counts, said otherwise.
counted : (first v : Stored) (freed n freed' n' : ℕ) → freed ≡ freed' → n ≡ n' → Collecting first v freed n → Collecting first v freed' n'
counted first v freed n freed' n' f s c = subst (λ k. Collecting first v k n') f (subst (λ k. Collecting first v freed k) s c)

pub went_so : (m n : Machine) (freed k freed' k' : ℕ) → freed ≡ freed' → k ≡ k' → Went m n freed k → Went m n freed' k'
went_so m n freed k freed' k' f s w = subst (λ z. Went m n z k') f (subst (λ z. Went m n freed z) s w)

pub went_none : (m : Machine) → Whole m → Went m m 0 0
went_none m w = record { collecting = begins; whole = w; left = omega arith; few = omega arith }

-- One more step.
module _ (a b c : Machine) (freed k count : ℕ) (w : Went a b freed k) (s : Steps b c count false) (before : IsHeap b.heap) (after : IsHeap c.heap) where
  pub went_more : Went a c (freed + count) (k + 1)
  went_more =
      let whole = whole_steps b c count false s w.whole in
      let step = collected b c count false s before after w.whole in
      record {
        collecting = steps (stored b) (stored c) freed k count w.collecting step (is_store c after whole);
        whole = whole;
        left = let left = w.left in elim step.left [ inl never ↦ absurd (cc never) | inr less ↦ omega (arith, left, less) ];
        few = let so_many = w.few in let one = step.few in omega (arith, so_many, one);
      }

-- Less is left after a step.
pub less_left : (a b : Machine) (count : ℕ) → Whole a → Steps a b count false → IsHeap a.heap → IsHeap b.heap → steps_left b < steps_left a
less_left a b count whole s before after = elim (collected a b count false s before after whole).left [ inl never ↦ absurd (cc never) | inr less ↦ less ]

-- The first step.
pub went_one : (a b : Machine) (count : ℕ) → Whole a → Steps a b count false → IsHeap a.heap → IsHeap b.heap → Went a b count 1
went_one a b count whole s before after = went_so a b (0 + count) (0 + 1) count 1 (omega arith) (omega arith) (went_more a a b 0 0 count (went_none a whole) s before after)

-- Steps after steps.
joined : (a b c : Stored) (freed k more l : ℕ) → Collecting a b freed k → Collecting b c more l → Collecting a c (freed + more) (k + l)
joined a b _ freed k _ _ first begins = counted a b freed k (freed + 0) (k + 0) (omega arith) (omega arith) first
joined a b _ freed k _ _ first (steps v w more l count rest step store) =
    counted a w (freed + more + count) (k + l + 1) (freed + (more + count)) (k + (l + 1)) (omega arith) (omega arith)
    (steps v w (freed + more) (k + l) count (joined a b v freed k more l first rest) step store)

pub went_on : (a b c : Machine) (freed k more l : ℕ) → Went a b freed k → Went b c more l → Went a c (freed + more) (k + l)
went_on a b c freed k more l w x = record {
  collecting = joined (stored a) (stored b) (stored c) freed k more l w.collecting x.collecting;
  whole = x.whole;
  left = let first = w.left in let rest = x.left in omega (arith, first, rest);
  few = let first = w.few in let rest = x.few in omega (arith, first, rest);
}

-- Steps before the rest of a cycle.
pub went_round : (a b c : Stored) (k freed n : ℕ) → Collecting a b 0 k → Cycled b c freed n → Cycled a c freed (k + n)
went_round a b c k freed n first rest = record {
  last = rest.last;
  before = k + rest.before;
  collecting = counted a rest.last (0 + freed) (k + rest.before) freed (k + rest.before) (omega arith) refl (joined a b rest.last 0 k freed rest.before first rest.collecting);
  ends = rest.ends;
  count = let more = rest.count in omega (arith, more);
}

-- What is left of a cycle is no more than can be counted.
few_bound : (n cells : ℕ) → n ≤ 65536 → cells ≤ 1048576 → cycle_bound n cells ≤ MOST_STEPS
few_bound n cells slots few = let square : n * n ≤ 65536 * 65536 = mul-le-mul slots slots in omega (arith, square)

pub few_left : (m : Machine) → Whole m → IsHeap m.heap → length m.heap.table.slots ≤ 65536 → m.heap.cell_count ≤ 1048576 → steps_left m ≤ MOST_STEPS
few_left m whole ok slots cells =
    let most = (is_store m ok whole).most_left in
    let size = zip_size m.heap.table.slots m.heap.lists in
    let few = few_bound (slot_count (stored m)) m.heap.cell_count (omega (arith, size, slots)) cells in
    omega (arith, most, few)
