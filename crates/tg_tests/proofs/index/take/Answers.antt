use Rattle.std.proofs.Common.{ap}
use Rattle.tg_lists.proofs.MembershipLemmas.{split_at}
use Rattle.tg_index.specs.Promise.Rows.{Rows, row}
use Rattle.tg_tests.proofs.index.take.Goals as goal

pub returns : goal.returns
returns g c =
    let s = split_at (row c.args.index.now.lists c.args.bucket) c.args.number c.is_in.ensures.row in
    let is = c.take.ensures s.before s.after s.is in
    record { used = ap (λ (r : Rows). r.used) is; size = ap (λ (r : Rows). r.size) is }
