use Rattle.std.proofs.Common.{rules}
use Rattle.std.proofs.lemmas.Fn.{filter_same}
use Rattle.tg_graph.specs.Promise.Protection.{has_retired}
use Rattle.tg_vault.proofs.rebase.keep_retired.Goals as goal

pub returns : goal.returns
returns c = filter_same _ (λ x. has_retired c.args.opening.now x) _ (λ x b f' k. search rules) _ _ c.retain.ensures.filtered
