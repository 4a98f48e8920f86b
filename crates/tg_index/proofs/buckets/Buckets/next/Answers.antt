use Rattle.std.proofs.Common.{◌∙◌, List, length, ap, cond, ltb, Some, None}
use Rattle.tg_index.specs.declared.buckets.Link.{Link}
use Rattle.tg_index.proofs.StepLemmas.{read_next}
use Rattle.tg_index.proofs.buckets.Buckets.next.Goals as goal

pub returns : goal.returns
returns c = λ b p r at.
    c.number_or_none.ensures
    ∙ ap (λ (l : List Link). cond (ltb c.index.result.now.next (length l)) (Some c.index.result.now.next) None) c.deref.ensures.value
    ∙ read_next c.self.inside c.args.self.now b c.args.number c.index.result.now p r c.self.view_is c.self.invariant c.index.ensures at
