use Rattle.std.proofs.Common.{List, ap, sym, subst, ◌∙◌}
use Rattle.tg_rights.specs.Promise.Letters.{includes}
use Rattle.tg_graph.specs.declared.derivation.Step.{Step}
use Rattle.tg_graph.specs.Promise.Derivations.{Derives}
use Rattle.tg_sharing.proofs.plain.plain_steps.Goals as goal

pub returns-then-contains : goal.returns-then-contains
returns-then-contains c =
    let G = c.args.graph.now in
    let d = c.new-derivation.result in
    let e = c.carry_out_all.new.self in
    let begun : Derives G d.steps.items d.graph = subst (λ (l : List Step). Derives G l d.graph) (sym c.new-derivation.ensures.steps) (c.new-derivation.ensures.graph ∙ c.in_ok-copy.ensures.equal) in
    (e.graph, c.in_ok-carry_out_all.ensures.derived G begun, ap (λ l. includes l c.args.goal.now.rights) (sym c.rights-reached.ensures) ∙ sym c.contains.ensures ∙ c.if-contains.true)
