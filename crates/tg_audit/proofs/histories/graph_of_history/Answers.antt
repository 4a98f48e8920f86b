use Rattle.std.proofs.Common.{◌∙◌}
use Rattle.tg_audit.proofs.DerivedLemmas.{graph_add}
use Rattle.tg_audit.proofs.ReplayLemmas.{left_asks, left_more, left_permitted, replayed_none}
use Rattle.tg_audit.proofs.histories.graph_of_history.Goals as goal

pub loop-number-init : goal.loop-number-init
loop-number-init c =
    let same = c.in_ok-graph.ensures.equal ∙ c.opening.ensures in
    record { left = (replayed_none c.args.vault.now c.in_ok-graph.graph same c.soundness.ensures.coherent.ties.opened c.soundness.ensures.vault.legal).left; reached = same }

pub reply_to-requires-clause-asks : goal.reply_to-requires-clause-asks
reply_to-requires-clause-asks c = left_asks c.args.vault.now c.loop-number.graph c.loop-number.number c.in-Some.entry.now c.loop-number.invariant.left c.in-Some.ensures.some

pub reply_to-requires-clause-permitted : goal.reply_to-requires-clause-permitted
reply_to-requires-clause-permitted c = left_permitted c.args.vault.now c.loop-number.graph c.loop-number.number c.in-Some.entry.now c.loop-number.invariant.left c.in-Some.ensures.some

pub loop-number-preserved : goal.loop-number-preserved
loop-number-preserved c =
    let v = c.args.vault.now in
    let n = c.loop-number.number in
    let e = c.in-Some.entry.now in
    let before = c.loop-number.invariant in
    let graph = c.in_ok-reply_to.ensures.graph in
    record {
      left = left_more v c.loop-number.graph c.reply_to.new.graph n e before.left c.in-Some.ensures.some graph;
      reached = graph_add v n e c.loop-number.graph c.reply_to.new.graph c.in-Some.ensures.some before.reached graph;
    }
