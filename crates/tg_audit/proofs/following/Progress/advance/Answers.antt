use Rattle.std.proofs.Common.{◌∷◌, ◌∙◌, subst, sym}
use Rattle.std.proofs.lemmas.Bool.{false≢true}
use Rattle.tg_audit.specs.Inner.Following.{HasFollowed, left_of, told_in}
use Rattle.tg_audit.proofs.FollowingLemmas.{apart_entry, apart_there, beside_more}
use Rattle.tg_audit.proofs.following.Progress.advance.Goals as goal

pub returns-in_default-next-clause-follows : goal.returns-in_default-next-clause-follows
returns-in_default-next-clause-follows c = λ entries rest follows.
    let beside = subst (HasFollowed c.args.entry.now.seat c.args.logs.now entries (told_in c.args.graph.now c.args.entry.now ∷ rest)) c.in-Beside.is follows in
    apart_entry _ _ entries rest c.in-Beside.position c.in-Beside.index _ beside (rw c.seat.ensures at c.in_default-next.ensures.none)

pub returns-then-branch-clause-follows : goal.returns-then-branch-clause-follows
returns-then-branch-clause-follows c = λ entries rest follows.
    let found = c.in-Some.found in
    let beside = subst (HasFollowed c.args.entry.now.seat c.args.logs.now entries (told_in c.args.graph.now c.args.entry.now ∷ rest)) c.in-Beside.is follows in
    beside_more _ _ entries rest c.in-Beside.position found.1 c.in-Beside.index _ found.0.now beside (rw c.seat.ensures at c.in-Some.ensures.some) (c.in_ok-is_told.ensures.same.0 c.if-branch.true)

pub returns-else-branch-clause-follows : goal.returns-else-branch-clause-follows
returns-else-branch-clause-follows c = λ entries rest follows.
    let found = c.in-Some.found in
    let beside = subst (HasFollowed c.args.entry.now.seat c.args.logs.now entries (told_in c.args.graph.now c.args.entry.now ∷ rest)) c.in-Beside.is follows in
    apart_there _ _ entries rest (left_of c.args.entry.now.seat c.args.logs.now found.1) c.in-Beside.position c.in-Beside.index _ found.0.now beside (rw c.seat.ensures at c.in-Some.ensures.some)
    (λ same. false≢true (sym c.if-branch.false ∙ c.in_ok-is_told.ensures.same.1 same))
