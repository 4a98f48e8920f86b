use Rattle.std.proofs.Common.{arith, rules}
use Rattle.std.proofs.lemmas.List.Sorted.{answers_always}
use Rattle.tg_collect.specs.Promise.Figures.{figure}
use Rattle.tg_collect.specs.Inner.Stored.{stored}
use Rattle.tg_collect.proofs.FiguresLemmas.{figure_named}
use Rattle.tg_collect.proofs.FoundLemmas.{found_sorted}
use Rattle.tg_collect.proofs.machine.Machine.figures.Goals as goal

pub returns : goal.returns
returns c =
    let m = c.args.self.now in
    let found = c.sort_unstable_by_key.new.self.items in
    found_sorted m c.requires (figure (stored m)) (λ f. f.serial) (figure_named (stored m)) c.loop-id.id (omega arith) found
    (rw c.loop-id.invariant at c.sort_unstable_by_key.ensures.permutation)
    (c.sort_unstable_by_key.ensures.sorted (λ f. f.serial) (answers_always _ _ _ (λ f a r g h. search rules)))
