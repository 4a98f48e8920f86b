use Rattle.std.proofs.Common.{ap, subst, sym, ◌∙◌}
use Rattle.tg_graph.specs.Promise.Deciding.{LeadTo}
use Rattle.tg_graph.specs.Inner.Deciding.{AskSome, NeedsFollow}
use Rattle.tg_graph.proofs.SoundTerms.{WantedNear}
use Rattle.tg_graph.specs.Promise.Rules.{names_rights}
use Rattle.tg_graph.proofs.DecidingLemmas.{sound}
use Rattle.tg_graph.proofs.rules.asked_of.Goals as goal

pub returns : goal.returns
returns c =
    let s = sound c.args.actor c.args.command.now in
    let shown = c.terms_of.ensures in
    record {
      for_retired = shown.for_retired;
      names = shown.names;
      apart = shown.apart;
      needs = shown.needs;
      wants = shown.wants;
      principal = shown.principal;
      name = shown.name;
      follows = subst (NeedsFollow c.args.actor) (sym shown.needs) s.follows;
      some = λ named. subst AskSome (sym shown.needs) (s.some (ap names_rights (sym shown.names) ∙ named));
      near = λ v k asked. subst (λ ns. LeadTo ns v) (sym shown.needs) (subst (WantedNear _) (sym shown.wants ∙ asked) s.wants);
    }
