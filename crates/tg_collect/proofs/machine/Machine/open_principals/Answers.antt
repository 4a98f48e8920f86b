use Rattle.std.proofs.Common.{◌≡◌, ◌+◌, ◌∙◌, sym, subst, ap, arith}
use Rattle.std.specs.Option.{is_some}
use Rattle.tg_collect.specs.Inner.Openings.{OpensFirst}
use Rattle.tg_collect.proofs.OpeningEdges.{kind_low, kind_high}
use Rattle.tg_collect.proofs.machine.Machine.open_principals.Goals as goal

pub open_principal-requires : goal.open_principal-requires
open_principal-requires c =
    let o = c.requires.opening in
    let i = c.loop-alloc.invariant in
    let low = kind_low c.args.graph.now o.count (c.loop-alloc.count + 1) o.vertices (sym (ap is_some c.kind.ensures) ∙ sym c.is_some.ensures ∙ c.loop-alloc-test.true) in
    let few = o.few in
    let fits = o.slots in
    let size = i.size.slots in
    record { first = i.first; few = omega (arith, low, few); room = omega (arith, low, fits, size) }

pub loop-alloc-preserved : goal.loop-alloc-preserved
loop-alloc-preserved c = record {
  first = c.open_principal.ensures.0;
  few = λ count e. let low = kind_low c.args.graph.now count (c.loop-alloc.count + 1) e (sym (ap is_some c.kind.ensures) ∙ sym c.is_some.ensures ∙ c.loop-alloc-test.true) in omega (arith, low);
  size = record { slots = c.open_principal.ensures.1.slots ∙ c.loop-alloc.invariant.size.slots; cells = c.open_principal.ensures.1.cells ∙ c.loop-alloc.invariant.size.cells; key = c.open_principal.ensures.1.key ∙ c.loop-alloc.invariant.size.key };
}

pub returns-clause-all : goal.returns-clause-all
returns-clause-all c =
    let o = c.requires.opening in
    let i = c.loop-alloc.invariant in
    let most = i.few o.count o.vertices in
    let high = kind_high c.args.graph.now o.count (c.loop-alloc.count + 1) o.vertices (sym (ap is_some c.kind.ensures) ∙ sym c.is_some.ensures ∙ c.loop-alloc-test.false) (omega arith) in
    let all : c.loop-alloc.count ≡ o.count = omega (arith, most, high) in
    let slots = o.slots in
    let cells = o.cells in
    let same_slots = i.size.slots in
    let same_cells = i.size.cells in
    record {
      opening = record { count = o.count; few = o.few; vertices = o.vertices; slots = omega (arith, slots, same_slots); cells = omega (arith, cells, same_cells) };
      first = subst (OpensFirst c.loop-alloc.self) all i.first;
    }
