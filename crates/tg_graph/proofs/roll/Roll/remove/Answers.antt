use Rattle.std.proofs.Common.{rules, ap, ◌∙◌}
use Rattle.std.proofs.lemmas.Fn.{filter_same}
use Rattle.tg_graph.specs.Promise.Protection.{without_member}
use Rattle.tg_graph.proofs.roll.Roll.remove.Goals as goal

pub returns : goal.returns
returns c = filter_same _ _ _ (λ x b f' k. search rules) _ _ c.retain.ensures.filtered ∙ ap (λ ms. without_member ms c.args.serial) c.self.view_is
