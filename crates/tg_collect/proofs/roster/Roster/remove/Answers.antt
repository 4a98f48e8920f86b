use Rattle.std.proofs.Common.{rules, List, not, ◌==◌, ap, ◌∙◌}
use Rattle.std.specs.List.{filter}
use Rattle.std.proofs.lemmas.Fn.{filter_same}
use Rattle.tg_collect.specs.declared.machine.Root.{Root}
use Rattle.tg_collect.proofs.roster.Roster.remove.Goals as goal

pub returns : goal.returns
returns c = filter_same _ _ _ (λ x b f' k. search rules) _ _ c.retain.ensures.filtered ∙ ap (λ (rs : List Root). filter (λ (r : Root). not (r.serial == c.args.serial)) rs) c.self.view_is
