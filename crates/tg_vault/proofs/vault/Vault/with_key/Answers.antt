use Rattle.std.proofs.Common.{◌≡◌, ◌≤◌, ℕ, List, Option, sym, subst, ◌∙◌, arith}
use Rattle.tg_rights.specs.declared.limits.TheConstants.{MAX_CELLS, MAX_SLOTS}
use Rattle.tg_graph.specs.declared.member.Member.{Member}
use Rattle.tg_collect.proofs.OpeningLemmas.{openings_can_be_stored}
use Rattle.tg_vault.specs.declared.entry.Entry.{Entry}
use Rattle.tg_vault.specs.Promise.Contents.{Contents, IsFresh}
use Rattle.tg_vault.specs.Inner.Fits.{IsTied}
use Rattle.tg_vault.proofs.FreshLemmas.{opening_fits, fresh_joined, fresh_is}
use Rattle.tg_vault.proofs.vault.Vault.with_key.Goals as goal

pub overflow_cast-config : goal.overflow_cast-config
overflow_cast-config c = let high : c.args.config.slots ≤ MAX_SLOTS = (openings_can_be_stored c.args.config c.in_ok-opening.ensures.sound).high_slots in omega arith

pub overflow_cast-config-2 : goal.overflow_cast-config-2
overflow_cast-config-2 c = let high : c.args.config.cells ≤ MAX_CELLS = (openings_can_be_stored c.args.config c.in_ok-opening.ensures.sound).high_cells in omega arith

pub with_key-requires-clause-low_slots : goal.with_key-requires-clause-low_slots
with_key-requires-clause-low_slots c = (openings_can_be_stored c.args.config c.in_ok-opening.ensures.sound).low_slots

pub with_key-requires-clause-high_slots : goal.with_key-requires-clause-high_slots
with_key-requires-clause-high_slots c = (openings_can_be_stored c.args.config c.in_ok-opening.ensures.sound).high_slots

pub with_key-requires-clause-low_cells : goal.with_key-requires-clause-low_cells
with_key-requires-clause-low_cells c = (openings_can_be_stored c.args.config c.in_ok-opening.ensures.sound).low_cells

pub with_key-requires-clause-high_cells : goal.with_key-requires-clause-high_cells
with_key-requires-clause-high_cells c = (openings_can_be_stored c.args.config c.in_ok-opening.ensures.sound).high_cells

pub with_key-requires-clause-opening : goal.with_key-requires-clause-opening
with_key-requires-clause-opening c = opening_fits c.args.config c.in_ok-opening.opening c.in_ok-opening.ensures.ok c.in_ok-opening.ensures.sound

-- What holds of contents holds if their names, their seats and their history are given otherwise.
as_given : (P : Contents → Type 0) (w : Contents) (names : List Member) (seats : List (Option ℕ)) (history : List Entry) → w.names ≡ names → w.seats ≡ seats → w.history ≡ history → P w →
    P (record w { names = names; seats = seats; history = history })
as_given P w names seats history called same none holds = subst P (λ i. record w { names = called i; seats = same i; history = none i }) holds

pub invariant_of-result : goal.invariant_of-result
invariant_of-result c = as_given (λ w. IsTied w c.args.config.next c.new.result.keys) _ _ _ _ (sym (c.in-Ok-copy.ensures ∙ c.principals.ensures)) (sym c.in-Ok-empty_seats.ensures) (sym c.new-2.ensures.items)
    (fresh_joined c.args.config c.in_ok-opening.opening c.in-Ok.store c.in_ok-opening.ensures.ok c.in_ok-opening.ensures.sound c.in_ok-opening.ensures.graph c.soundness.ensures.sound c.in-Ok.ensures.opened c.new.result.keys c.new.ensures.empty)

pub returns-clause-ok : goal.returns-clause-ok
returns-clause-ok c = as_given (λ w. IsFresh c.args.config w) _ _ _ _ (sym (c.in-Ok-copy.ensures ∙ c.principals.ensures)) (sym c.in-Ok-empty_seats.ensures) (sym c.new-2.ensures.items)
    (fresh_is c.args.config c.in_ok-opening.opening c.in-Ok.store c.in_ok-opening.ensures.ok c.in_ok-opening.ensures.sound c.in_ok-opening.ensures.graph c.soundness.ensures.sound c.in-Ok.ensures.opened)
