use Rattle.std.proofs.Common.{◌≡◌, ◌<◌, ◌≤◌, ℕ, List, length, Some, None, false, is_some, refl, sym, ap, ◌∙◌, inl, inr, below_more, arith}
use Rattle.std.specs.Prelude.{Option}
use Rattle.std.proofs.lemmas.Bool.{cases_lt}
use Rattle.std.proofs.lemmas.List.{get_or_past}
use Rattle.tg_vault.specs.Promise.World.{NobodySits, at_seat}
use Rattle.tg_vault.proofs.seats.first_in_use.Goals as goal

none_of : (o : Option ℕ) → is_some o ≡ false → o ≡ None
none_of None empty = refl
none_of (Some x) empty = absurd (cc empty)

all_none : (table : List (Option ℕ)) (n : ℕ) → length table ≤ n → ((k : ℕ) → k < n → at_seat table k ≡ None) → NobodySits table
all_none table n past none k = elim (cases_lt k n) [ inl low ↦ none k low | inr high ↦ get_or_past table k None (omega (arith, past, high)) ]

pub returns-then-is_some-clause-some : goal.returns-then-is_some-clause-some
returns-then-is_some-clause-some c = record {
  within = c.loop-seat-test.true;
  taken = sym (ap is_some c.at_seat.ensures) ∙ sym c.is_some.ensures ∙ c.if-is_some.true;
  least = c.loop-seat.invariant;
}

pub loop-seat-preserved : goal.loop-seat-preserved
loop-seat-preserved c =
    let table = c.args.table.now in
    below_more (λ (k : ℕ). at_seat table k ≡ None) c.loop-seat.seat c.loop-seat.invariant
    (none_of (at_seat table c.loop-seat.seat) (sym (ap is_some c.at_seat.ensures) ∙ sym c.is_some.ensures ∙ c.if-is_some.false))

pub returns-clause-none : goal.returns-clause-none
returns-clause-none c = let long = c.requires in let all = c.loop-seat-test.false in all_none c.args.table.now c.loop-seat.seat (omega (arith, long, all)) c.loop-seat.invariant
