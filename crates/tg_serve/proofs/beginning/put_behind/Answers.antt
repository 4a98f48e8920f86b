-- What stands before so many bytes stays.
use Rattle.std.proofs.Common.{arith}
use Rattle.tg_serve.proofs.BeginningLemmas.{put_at}
use Rattle.tg_serve.proofs.beginning.put_behind.Goals as goal

pub returns-clause-filled : goal.returns-clause-filled
returns-clause-filled c = rw c.copy_from_slice.ensures.after
    (put_at c.args.bytes.now c.args.more.now _ c.args.count c.min-taken.result (omega (arith, c.requires, c.told-bytes)) c.requires c.min-taken.ensures)
