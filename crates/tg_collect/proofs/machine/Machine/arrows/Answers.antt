use Rattle.std.proofs.Common.{◌≡◌, ◌++◌, [], ◌∙◌, ap, arith, rules, subst, sym}
use native.Mathlib.Numerals.{unary_clauses}
use Rattle.std.specs.List.Sorted.{IsPermutation}
use Rattle.std.proofs.lemmas.List.Sorted.{IsPermutation-append, IsPermutation-refl, IsPermutation-trans, answers_always}
use Rattle.tg_collect.specs.Inner.Figures.{arrows, arrows_from}
use Rattle.tg_collect.specs.Inner.Stored.{stored}
use Rattle.tg_collect.proofs.FoundLemmas.{gathered}
use Rattle.tg_collect.proofs.FiguresLemmas.{arrows_sorted, ends}
use Rattle.tg_collect.proofs.machine.Machine.arrows.Goals as goal

pub loop-slot-init : goal.loop-slot-init
loop-slot-init c = (c.new-few.ensures.items, subst (IsPermutation []) (sym c.new-found.ensures.items) (IsPermutation-refl []))

pub loop-slot-preserved : goal.loop-slot-preserved
loop-slot-preserved c =
    let given = arrows (stored c.args.self.now) c.args.with_parked in
    let i = c.loop-slot.slot in
    let few : c.add_arrows.new.found.items ≡ given i =
    c.in_ok-add_arrows.ensures ∙ ap (λ l. l ++ arrows_from (stored c.args.self.now) c.source_at-from.result i) c.loop-slot.invariant.0 ∙ ap (λ o. arrows_from (stored c.args.self.now) o i) c.source_at-from.ensures in
    let sorted : IsPermutation (given i) c.sort_unstable_by_key.new.self.items = subst (λ l. IsPermutation l c.sort_unstable_by_key.new.self.items) few c.sort_unstable_by_key.ensures.permutation in
    let moved : IsPermutation (gathered given i ++ given i) c.append.new.self.items = subst (IsPermutation (gathered given i ++ given i)) (sym c.in_ok-append.ensures.items)
    (IsPermutation-append (gathered given i) c.loop-slot.found.items (given i) c.sort_unstable_by_key.new.self.items c.loop-slot.invariant.1 sorted) in
    (c.in_ok-append.ensures.other_items, simp unary_clauses moved)

pub returns : goal.returns
returns c =
    let found = c.sort_unstable_by_key-2.new.self.items in
    arrows_sorted c.args.self.now c.requires c.args.with_parked c.loop-slot.slot (omega arith) found
    (IsPermutation-trans _ _ _ c.loop-slot.invariant.1 c.sort_unstable_by_key-2.ensures.permutation)
    (c.sort_unstable_by_key-2.ensures.sorted ends (answers_always _ _ _ (λ f a r g h. search rules)))
