use Rattle.std.proofs.Common.{◌++◌, ◌∷◌, [], inl, inr, subst, sym, ap, ◌∙◌}
use Rattle.tg_rights.specs.Promise.Letters.{take_alone}
use Rattle.tg_rights.specs.declared.command.Command.{Command}
use Rattle.tg_graph.specs.Promise.Rules.{Allowed, after}
use Rattle.tg_sharing.specs.Inner.Growing.{Continues}
use Rattle.tg_sharing.specs.Inner.Paths.{Holds}
use Rattle.tg_sharing.proofs.GrowingLemmas.{take_allowed, took}
use Rattle.tg_sharing.proofs.builder.Derivation.gain.Goals as goal
use Rattle.tg_sharing.proofs.builder.Derivation.gain.Goals.{In_ok-carry_out}

pub carry_out-requires-clause-allowed : goal.carry_out-requires-clause-allowed
carry_out-requires-clause-allowed c =
    let G = c.args.self.now.graph in
    let t : Holds G c.args.actor take_alone c.args.from = elim c.requires.draws [ inl is ↦ absurd (c.if-actor-from.false is) | inr h ↦ h ] in
    subst (λ (k : Command). Allowed G c.args.actor k) (sym c.take-2.ensures)
    (take_allowed c.each_is_allowed_so.ensures G c.soundness.ensures c.args.actor c.requires.actor c.args.rights c.requires.some c.args.over c.args.from t c.requires.held c.if-actor-over.false)

-- the take that was carried out
step : (c : In_ok-carry_out) → Continues c.args.self.now c.carry_out.new.self × Holds c.carry_out.new.self.graph c.args.actor c.args.rights c.args.over
step c =
    let d = c.args.self.now in
    let t : Holds d.graph c.args.actor take_alone c.args.from = elim c.requires.draws [ inl is ↦ absurd (c.if-actor-from.false is) | inr h ↦ h ] in
    took c.each_is_allowed_so.ensures d c.carry_out.new.self c.soundness.ensures c.args.actor c.requires.actor c.args.rights c.requires.some c.args.over c.args.from t c.requires.held c.if-actor-over.false
    (c.in_ok-carry_out.ensures.graph ∙ ap (after d.graph c.args.actor) c.take-2.ensures)
    (c.in_ok-carry_out.ensures.steps ∙ ap (λ (k : Command). d.steps.items ++ record { actor = c.args.actor; command = k } ∷ []) c.take.ensures)

pub returns-clause-continues : goal.returns-clause-continues
returns-clause-continues c = (step c).0

pub returns-clause-gained : goal.returns-clause-gained
returns-clause-gained c = λ _. (step c).1
