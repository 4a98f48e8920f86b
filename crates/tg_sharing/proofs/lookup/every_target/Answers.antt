use Rattle.std.proofs.Common.{ap, subst, ◌∙◌}
use Rattle.std.specs.Prelude.{MatchOption, Option, filter_map}
use Rattle.tg_sharing.specs.Inner.Lookups.{target_found}
use Rattle.tg_sharing.specs.Promise.Prospects.{IsProspect, IsTooMuch}
use Rattle.tg_sharing.specs.declared.prospect.Prospect.{Prospect}
use Rattle.tg_sharing.proofs.LookupLemmas.{targets_listed}
use Rattle.tg_sharing.proofs.lookup.every_target.Goals as goal

pub returns : goal.returns
returns c =
    let G = c.args.graph.now in
    let found = subst (λ (o : Option Prospect). MatchOption o (IsTooMuch G c.args.most) (IsProspect G c.args.from)) c.in-Some.is c.in_ok-prospect.ensures in
    targets_listed c.commands_keep_graphs.ensures G c.soundness.ensures c.args.rights c.args.from c.requires.some c.in-Some.prospect found c.in_ok-found.found.items
    (c.in_ok-found.ensures ∙ ap (filter_map (λ p. target_found G c.args.rights c.args.from p.0 p.1)) c.deref.ensures.value)
