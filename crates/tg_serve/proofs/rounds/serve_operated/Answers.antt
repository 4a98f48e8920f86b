use Rattle.tg_serve.proofs.RoundsLemmas.{concluded}
use Rattle.tg_serve.proofs.rounds.serve_operated.Goals as goal

pub returns : goal.returns
returns g c =
    concluded c.serve_rounds-found.result _ _ _ _ _ _ _ _ _ _ _ _ c.at_least_one-size.ensures.same c.announce_in_ticks-is_announced.ensures.announced c.serve_rounds-found.ensures.agreed c.serve_rounds-found.ensures.told c.conclude-served.ensures
