use Rattle.std.proofs.Common.{arith}
use Rattle.tg_wire.proofs.AsciiLemmas.{ascii_from_lanes}
use Rattle.tg_wire.proofs.ascii.ascii_32.Goals as goal

pub returns : goal.returns
returns c = ascii_from_lanes c.args.bytes.now c.args.at 32 c.requires (omega arith) c.type_inv.bytes
