use Rattle.std.proofs.Common.{true}
use Rattle.tg_collect.specs.Inner.Stored.{stored}
use Rattle.tg_collect.proofs.FiguresLemmas.{given, taken}
use Rattle.tg_collect.proofs.FoundLemmas.{chosen, optional}
use Rattle.tg_collect.proofs.store.Store.figures.Goals as goal

pub returns : goal.returns
returns c =
    let v = stored c.self.inside.machine in
    let vertices = c.in_ok-vertices.ensures in
    let edges = c.in_ok-edges.ensures in
    rw (← c.self.view_is) (record {
      vertices = λ f. (λ h. let r = (vertices.has f).0 h in (r.0, optional _ f r.1), λ r. (vertices.has f).1 (r.0, chosen _ f r.1));
      edges = λ x y l. (λ h. let r = (edges.has (x, l, y)).0 h in (given v true r.0 (x, l, y) r.1).0, λ a. (edges.has (x, l, y)).1 (a.slot, taken v true x y l a a.from));
      by_serial = vertices.rising;
      by_pairs = edges.rising;
    })
