use Rattle.tg_graph.proofs.ComeAndGoLemmas.{come_and_go}
use Rattle.tg_graph.proofs.principals_come_and_go.Goals as goal

pub returns : goal.returns
returns c = come_and_go
