use Rattle.std.proofs.Common.{[], subst}
use Rattle.tg_audit.specs.Inner.Following.{HasFollowed, left_of}
use Rattle.tg_audit.proofs.FollowingLemmas.{apart_log}
use Rattle.tg_audit.proofs.following.index_apart.Goals as goal

pub returns-in-Some-clause-some : goal.returns-in-Some-clause-some
returns-in-Some-clause-some c = λ entries follows.
    let seat = c.args.seat in
    let logs = c.args.logs.now in
    let beside = subst (HasFollowed seat logs entries []) c.in-Beside.is follows in
    apart_log seat logs entries (left_of seat logs c.in-Some.field-0.1) c.in-Beside.position c.in-Beside.index c.in-Some.field-0.0.now beside c.in-Some.ensures.some
