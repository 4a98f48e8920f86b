use Rattle.std.proofs.Common.{decimal, drop}
use Rattle.json.specs.Print.{quoted}
use Rattle.tg_rights.specs.Promise.Written.{rights_text}
use Rattle.tg_wire.proofs.EdgesLemmas.{edge_whole}
use Rattle.tg_wire.proofs.edges.edge_before.Goals as goal

pub returns-clause-text : goal.returns-clause-text
returns-clause-text c =
    rw (c.bytes_before.ensures.text, c.number_before-end.ensures.text, c.bytes_before-end-2.ensures.text, c.letters_before-end.ensures.text, c.bytes_before-end.ensures.text)
    (edge_whole (decimal c.args.serial) (quoted (rights_text c.args.rights)) (drop c.args.end c.args.room.now))
