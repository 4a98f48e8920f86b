use Rattle.std.proofs.Common.{List, ◌∙◌, ap}
use Rattle.tg_index.specs.declared.buckets.Link.{Link}
use Rattle.tg_index.specs.Inner.Links.{with_previous}
use Rattle.tg_index.proofs.StepLemmas.{puts}
use Rattle.tg_index.proofs.buckets.Buckets.put.Goals as goal

pub invariant_of-self : goal.invariant_of-self
invariant_of-self c =
    (puts c.self.inside c.args.self.now c.write.new.links c.set_previous.new.links c.args.bucket c.args.number c.index-head.result.now c.self.view_is c.self.invariant c.requires.bucket c.requires.unheld c.requires.used c.requires.within
    c.index-head.ensures c.write.ensures.room c.write.ensures.written (c.set_previous.ensures ∙ ap (λ (l : List Link). with_previous l c.index-head.result.now c.args.number) c.deref_mut.ensures.value)).kept

pub returns : goal.returns
returns c =
    (puts c.self.inside c.args.self.now c.write.new.links c.set_previous.new.links c.args.bucket c.args.number c.index-head.result.now c.self.view_is c.self.invariant c.requires.bucket c.requires.unheld c.requires.used c.requires.within
    c.index-head.ensures c.write.ensures.room c.write.ensures.written (c.set_previous.ensures ∙ ap (λ (l : List Link). with_previous l c.index-head.result.now c.args.number) c.deref_mut.ensures.value)).shows
