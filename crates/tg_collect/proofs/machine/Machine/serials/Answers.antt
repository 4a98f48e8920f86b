use Rattle.std.proofs.Common.{arith, false, rules}
use Rattle.std.proofs.lemmas.List.Sorted.{answers_always}
use Rattle.tg_collect.specs.Promise.Readings.{place}
use Rattle.tg_collect.specs.Inner.Stored.{stored}
use Rattle.tg_collect.proofs.FiguresLemmas.{named}
use Rattle.tg_collect.proofs.FoundLemmas.{found_sorted}
use Rattle.tg_collect.proofs.machine.Machine.serials.Goals as goal

pub returns : goal.returns
returns c =
    let m = c.args.self.now in
    let found = c.sort_unstable_by_key.new.self.items in
    found_sorted m c.requires (place (stored m)) (λ x. x) (named (stored m) false false) c.loop-slot.slot (omega arith) found
    (rw c.loop-slot.invariant at c.sort_unstable_by_key.ensures.permutation)
    (c.sort_unstable_by_key.ensures.sorted (λ x. x) (answers_always _ _ _ (λ f a r g h. search rules)))
