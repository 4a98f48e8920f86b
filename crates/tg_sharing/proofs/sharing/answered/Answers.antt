use Rattle.std.proofs.Common.{List, refl, sym, subst, ◌∙◌}
use Rattle.tg_graph.specs.declared.derivation.Step.{Step}
use Rattle.tg_graph.specs.Promise.Derivations.{Derives}
use Rattle.tg_sharing.proofs.SharingLemmas.{never_itself, never_shared, nothing_shared}
use Rattle.tg_sharing.proofs.sharing.answered.Goals as goal

pub returns-then-is_empty : goal.returns-then-is_empty
returns-then-is_empty c =
    let G = c.args.graph.now in
    (G, subst (λ (l : List Step). Derives G l G) (sym c.new.ensures.items) refl, nothing_shared G c.args.goal (sym c.is_empty.ensures ∙ c.if-is_empty.true))

pub returns-then-goal : goal.returns-then-goal
returns-then-goal c = never_itself c.commands_keep_graphs.ensures c.args.graph.now c.args.goal c.soundness.ensures c.if-goal.true (sym c.is_empty.ensures ∙ c.if-is_empty.false)

pub returns-then-is_never : goal.returns-then-is_never
returns-then-is_never c =
    let lacking = c.is_never.ensures c.if-is_never.true in
    never_shared c.withheld_for_ever.ensures c.args.graph.now c.args.goal c.in_ok-marks.marks lacking.0 c.soundness.ensures c.requires.from c.requires.to c.in_ok-marks.ensures.from c.in_ok-marks.ensures.closed lacking.1
