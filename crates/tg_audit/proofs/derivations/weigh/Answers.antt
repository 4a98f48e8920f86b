use Rattle.std.proofs.Common.{◌≡◌, ◌∙◌, true, false, ap, refl, sym}
use Rattle.std.proofs.lemmas.Bool.{false≢true}
use Rattle.tg_rights.specs.Promise.Letters.{includes, without}
use Rattle.tg_graph.specs.Promise.Protection.{label}
use Rattle.tg_audit.proofs.derivations.weigh.Goals as goal

pub returns-then-contains : goal.returns-then-contains
returns-then-contains c =
    let goal = c.args.goal in
    let met : includes (label c.args.graph.now goal.from goal.to) goal.rights ≡ true = sym (ap (λ l. includes l goal.rights) c.rights-label.ensures) ∙ (sym c.contains.ensures ∙ c.if-contains.true) in
    record { reached = c.args.graph.now; derived = refl; shared = met }

pub returns-else-contains : goal.returns-else-contains
returns-else-contains c =
    let goal = c.args.goal in
    let unmet : includes (label c.args.graph.now goal.from goal.to) goal.rights ≡ false = sym (ap (λ l. includes l goal.rights) c.rights-label.ensures) ∙ (sym c.contains.ensures ∙ c.if-contains.false) in
    record { reached = c.args.graph.now; derived = refl; unmet = λ met. false≢true (sym unmet ∙ met); rights = c.minus.ensures ∙ ap (without goal.rights) c.rights-label.ensures }
