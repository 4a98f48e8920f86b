use Rattle.tg_serve.proofs.MeaningsLemmas.{servers_mean}
use Rattle.tg_serve.proofs.laws.servers_have_meanings.Goals as goal

pub returns : goal.returns
returns c = servers_mean
