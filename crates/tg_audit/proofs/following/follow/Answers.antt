use Rattle.std.proofs.Common.{◌<◌, ◌≡◌, ◌∙◌, Some, arith, refl, slice_get, slice_index_or}
use Rattle.std.proofs.lemmas.Option.{slice_get-get_or}
use Rattle.tg_rights.specs.declared.limits.TheConstants.{SEATS}
use Rattle.tg_graph.specs.Promise.Rules.{reply_of}
use Rattle.tg_audit.specs.Promise.Replies.{replies_of}
use Rattle.tg_audit.proofs.DerivedLemmas.{graph_add}
use Rattle.tg_audit.proofs.ReplayLemmas.{left_asks, left_permitted, replayed_none, replays}
use Rattle.tg_audit.proofs.TableLemmas.{followed_end, followed_fresh, followed_more, start}
use Rattle.tg_audit.proofs.following.follow.Goals as goal

pub loop-number-init : goal.loop-number-init
loop-number-init c =
    let v = c.args.vault.now in
    let G = c.in_ok-graph.graph in
    record {
      followed = followed_fresh v c.args.logs.now;
      replayed = replayed_none v G (c.in_ok-graph.ensures.equal ∙ c.opening.ensures) c.soundness.ensures.coherent.ties.opened c.soundness.ensures.vault.legal;
      reached = c.in_ok-graph.ensures.equal ∙ c.opening.ensures;
    }

pub advance-requires-clause-asks : goal.advance-requires-clause-asks
advance-requires-clause-asks c = left_asks c.args.vault.now c.loop-number.graph c.loop-number.number c.entry_at-entry.result.now c.loop-number.invariant.replayed.left c.entry_at-entry.ensures.entry

pub advance-requires-clause-permitted : goal.advance-requires-clause-permitted
advance-requires-clause-permitted c = left_permitted c.args.vault.now c.loop-number.graph c.loop-number.number c.entry_at-entry.result.now c.loop-number.invariant.replayed.left c.entry_at-entry.ensures.entry

pub advance-requires-clause-room : goal.advance-requires-clause-room
advance-requires-clause-room c =
    let seat = c.seat-seat.result in
    let within : seat < SEATS = rw (← c.seat-seat.ensures) at c.entry_at-entry.ensures.seat in
    let p = slice_index_or c.loop-number.table seat start in
    let followed = c.loop-number.invariant.followed in
    let here : slice_get c.loop-number.table seat ≡ Some p = slice_get-get_or c.loop-number.table seat start (omega (arith, followed.whole, within)) in
    omega (arith, followed.few seat within p here)

pub loop-number-preserved : goal.loop-number-preserved
loop-number-preserved c =
    let v = c.args.vault.now in
    let G = c.loop-number.graph in
    let n = c.loop-number.number in
    let e = c.entry_at-entry.result.now in
    let r = reply_of G e.actor e.command e.outcome in
    let p = slice_index_or c.loop-number.table e.seat start in
    let followed = c.loop-number.invariant.followed in
    let here : slice_get c.loop-number.table e.seat ≡ Some p = slice_get-get_or c.loop-number.table e.seat start (omega (arith, followed.whole, c.entry_at-entry.ensures.seat)) in
    let next = replays v G c.advance.new.graph n e r c.loop-number.invariant.replayed c.entry_at-entry.ensures.entry refl c.in_ok-advance.ensures.graph in
    record {
      followed = rw c.seat-seat.ensures (followed_more v c.args.logs.now (replies_of v.opening v.history) n c.loop-number.table e r p c.advance.new.self followed c.entry_at-entry.ensures.entry next.told c.entry_at-entry.ensures.seat here (rw c.seat-seat.ensures at c.in_ok-advance.ensures.follows) (rw c.seat-seat.ensures at c.in_ok-advance.ensures.count));
      replayed = next.replayed;
      reached = graph_add v n e G c.advance.new.graph c.entry_at-entry.ensures.entry c.loop-number.invariant.reached c.in_ok-advance.ensures.graph;
    }

pub returns-clause-whole : goal.returns-clause-whole
returns-clause-whole c = c.loop-number.invariant.followed.whole

pub returns-clause-follows : goal.returns-clause-follows
returns-clause-follows c = followed_end c.args.vault.now c.args.logs.now (replies_of c.args.vault.now.opening c.args.vault.now.history) c.loop-number.number c.loop-number.table c.loop-number.invariant.followed (omega arith)
