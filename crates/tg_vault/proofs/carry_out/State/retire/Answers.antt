use Rattle.std.proofs.Common.{[], ap, refl}
use Rattle.tg_graph.specs.Promise.Protection.{Protection}
use Rattle.tg_graph.proofs.VertexLemmas.{retired-shown}
use Rattle.tg_vault.proofs.carry_out.State.retire.Goals as goal

pub returns-clause-gone : goal.returns-clause-gone
returns-clause-gone c = ap (λ (G : Protection). G.retired) (retired-shown _ [] [] [] c.args.self.now.retired.keys c.insert.new.self.keys 0 c.args.actor refl c.in_ok-insert.ensures.updates.0)
