use Rattle.std.proofs.Common.{ap, ◌∙◌}
use Rattle.tg_rights.specs.Promise.Letters.{is_none}
use Rattle.tg_collect.specs.Promise.Readings.{serial_at}
use Rattle.tg_collect.proofs.StoreLemmas.{edge_in}
use Rattle.tg_collect.proofs.tests.remove.Goals as goal

pub remove_rights-requires-clause-edge : goal.remove_rights-requires-clause-edge
remove_rights-requires-clause-edge g c = edge_in c.args.store.now 0 (serial_at c.args.store.now c.at-id.result) c.args.serial (ap is_none (c.in-Some.ensures'.2 0) ∙ c.in-Some.ensures'.1)
