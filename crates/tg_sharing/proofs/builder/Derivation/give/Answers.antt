use Rattle.std.proofs.Common.{◌++◌, ◌∷◌, [], inl, inr, subst, sym, ap, ◌∙◌}
use Rattle.tg_rights.specs.Promise.Letters.{grant_alone}
use Rattle.tg_rights.specs.declared.command.Command.{Command}
use Rattle.tg_graph.specs.Promise.Rules.{Allowed, after}
use Rattle.tg_sharing.specs.Inner.Growing.{Continues}
use Rattle.tg_sharing.specs.Inner.Paths.{Holds}
use Rattle.tg_sharing.proofs.GrowingLemmas.{grant_allowed, granted}
use Rattle.tg_sharing.proofs.builder.Derivation.give.Goals as goal
use Rattle.tg_sharing.proofs.builder.Derivation.give.Goals.{In_ok-carry_out}

pub carry_out-requires-clause-allowed : goal.carry_out-requires-clause-allowed
carry_out-requires-clause-allowed c =
    let G = c.args.self.now.graph in
    let t : Holds G c.args.actor grant_alone c.args.to = elim c.requires.gives [ inl is ↦ absurd (c.if-actor-to.false is) | inr h ↦ h ] in
    subst (λ (k : Command). Allowed G c.args.actor k) (sym c.grant-2.ensures)
    (grant_allowed c.each_is_allowed_so.ensures G c.soundness.ensures c.args.actor c.requires.actor c.args.rights c.requires.some c.args.over c.args.to t c.requires.held c.requires.apart)

-- the grant that was carried out
step : (c : In_ok-carry_out) → Continues c.args.self.now c.carry_out.new.self × Holds c.carry_out.new.self.graph c.args.to c.args.rights c.args.over
step c =
    let d = c.args.self.now in
    let t : Holds d.graph c.args.actor grant_alone c.args.to = elim c.requires.gives [ inl is ↦ absurd (c.if-actor-to.false is) | inr h ↦ h ] in
    granted c.each_is_allowed_so.ensures d c.carry_out.new.self c.soundness.ensures c.args.actor c.requires.actor c.args.rights c.requires.some c.args.over c.args.to t c.requires.held c.requires.apart
    (c.in_ok-carry_out.ensures.graph ∙ ap (after d.graph c.args.actor) c.grant-2.ensures)
    (c.in_ok-carry_out.ensures.steps ∙ ap (λ (k : Command). d.steps.items ++ record { actor = c.args.actor; command = k } ∷ []) c.grant.ensures)

pub returns-clause-continues : goal.returns-clause-continues
returns-clause-continues c = (step c).0

pub returns-clause-given : goal.returns-clause-given
returns-clause-given c = (step c).1
