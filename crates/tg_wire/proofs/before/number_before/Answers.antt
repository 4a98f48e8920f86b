use Rattle.std.proofs.Common.{arith}
use Rattle.std.proofs.lemmas.Fmt.{length-decimal-le}
use Rattle.tg_wire.proofs.before.number_before.Goals as goal

pub write_digits-requires : goal.write_digits-requires
write_digits-requires c = omega (arith, length-decimal-le 20 c.args.number (omega arith) (omega arith) c.ranges.number.fits)

pub returns-clause-low : goal.returns-clause-low
returns-clause-low c = omega (arith, length-decimal-le 20 c.args.number (omega arith) (omega arith) c.ranges.number.fits)
