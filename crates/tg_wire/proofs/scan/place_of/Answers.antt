use Rattle.tg_wire.proofs.LexemesLemmas.{spaces_at}
use Rattle.tg_wire.proofs.scan.place_of.Goals as goal

pub returns-then-bytes-at-clause-spaces : goal.returns-then-bytes-at-clause-spaces
returns-then-bytes-at-clause-spaces c = spaces_at c.args.bytes.now c.args.from c.spaces_end-at.result c.spaces_end-at.ensures.value
