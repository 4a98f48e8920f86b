use Rattle.tg_collect.proofs.StoreLemmas.{read_edge}
use Rattle.tg_collect.proofs.reader.StoreReader.edge.Goals as goal

pub returns : goal.returns
returns c = read_edge c.args.self.now c.args.from.place c.args.from.serial c.args.to c.edge.result c.requires c.edge.ensures
