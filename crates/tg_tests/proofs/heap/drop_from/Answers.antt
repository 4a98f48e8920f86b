use Rattle.std.proofs.Common.{ap}
use Rattle.tg_rights.specs.Promise.Letters.{Letters, includes}
use Rattle.tg_tests.proofs.heap.drop_from.Goals as goal

pub drop_rights-requires : goal.drop_rights-requires
drop_rights-requires g c =
    let found = c.in-Some.ensures in
    let label = ap (λ (l : Letters). includes l c.args.rights) found.2 in
    (found.0, (cc))
