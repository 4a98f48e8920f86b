use Rattle.std.proofs.Common.{◌≡◌, ◌++◌, [], ◌∷◌, ◌∙◌, ◌+◌, ap, arith, suc}
use Rattle.std.proofs.lemmas.List.{take_all}
use Rattle.tg_audit.specs.Promise.Replies.{replies_of}
use Rattle.tg_audit.proofs.ReplayLemmas.{left_asks, left_permitted, replayed_none, replays, replies_length, take_more}
use Rattle.tg_audit.proofs.replaying.replay.Goals as goal

pub loop-number-init : goal.loop-number-init
loop-number-init c = record { replied = c.new-replies.ensures.items; replayed = replayed_none c.args.vault.now c.in_ok-graph.graph (c.in_ok-graph.ensures.equal ∙ c.opening.ensures) c.soundness.ensures.coherent.ties.opened c.soundness.ensures.vault.legal }

pub reply_to-requires-clause-asks : goal.reply_to-requires-clause-asks
reply_to-requires-clause-asks c = left_asks c.args.vault.now c.loop-number.graph c.loop-number.number c.in-Some.entry.now c.loop-number.invariant.replayed.left c.in-Some.ensures.some

pub reply_to-requires-clause-permitted : goal.reply_to-requires-clause-permitted
reply_to-requires-clause-permitted c = left_permitted c.args.vault.now c.loop-number.graph c.loop-number.number c.in-Some.entry.now c.loop-number.invariant.replayed.left c.in-Some.ensures.some

pub loop-number-preserved : goal.loop-number-preserved
loop-number-preserved c =
    let rs = replies_of c.args.vault.now.opening c.args.vault.now.history in
    let n = c.loop-number.number in
    let r = c.in_ok-reply.reply in
    let next = replays c.args.vault.now c.loop-number.graph c.reply_to.new.graph n c.in-Some.entry.now r c.loop-number.invariant.replayed c.in-Some.ensures.some c.in_ok-reply.ensures.reply c.in_ok-reply.ensures.graph in
    let after : n + 1 ≡ suc n = omega arith in
    record { replied = c.in_ok-push.ensures.items ∙ (ap (λ l. l ++ r ∷ []) c.loop-number.invariant.replied ∙ rw after (take_more rs n r next.told)); replayed = next.replayed }

pub returns : goal.returns
returns c =
    let v = c.args.vault.now in
    let rs = replies_of v.opening v.history in
    c.loop-number.invariant.replied ∙ take_all c.loop-number.number rs (omega (arith, replies_length v.opening v.history))
