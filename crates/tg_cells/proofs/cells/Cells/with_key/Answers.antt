use Rattle.std.proofs.Common.{◌∙◌, List, [], refl, ap, length, arith}
use Rattle.std.proofs.lemmas.List.{length-replicate}
use Rattle.tg_lists.proofs.NestedLemmas.{empty_at}
use Rattle.tg_cells.specs.Promise.Lists.{Edge, CellLists, owned}
use Rattle.tg_cells.proofs.StepLemmas.{empty, leaves-new}
use Rattle.tg_cells.proofs.IndexLemmas.{stays, indexes-new}
use Rattle.tg_cells.proofs.cells.Cells.with_key.Goals as goal

pub invariant_of-result : goal.invariant_of-result
invariant_of-result c =
    let some = c.in_ok-index.ensures.0 in
    let enough = c.buckets_for.ensures.enough in
    let heads = c.in_ok-heads.ensures.items_if_clones_equal (λ y e. e) in
    let owners = c.requires.high_owners in
    let many = ap length heads in
    (stays (record { cells = c.in_ok-cells.cells; heads = c.in_ok-heads.heads; free = c.args.count; free_count = c.args.count; size = c.args.count; index = c.in_ok-index.index; key = c.args.key }) (empty c.args.owners c.args.count c.args.key)
    (leaves-new (record { cells = c.in_ok-cells.cells; heads = c.in_ok-heads.heads; free = c.args.count; free_count = c.args.count; size = c.args.count; index = c.in_ok-index.index; key = c.args.key }) c.args.owners
    (record { heads = heads; items = c.in_ok-cells.ensures.none; size = refl; count = refl; key = refl; most = c.requires.high; most_owners = omega (arith, many, owners, length-replicate c.args.owners c.args.count); room = c.in_ok-cells.ensures.room }) refl)
    (indexes-new (record { cells = c.in_ok-cells.cells; heads = c.in_ok-heads.heads; free = c.args.count; free_count = c.args.count; size = c.args.count; index = c.in_ok-index.index; key = c.args.key }) c.args.owners c.in_ok-cells.ensures.none
    (omega arith) (omega arith) c.in_ok-index.ensures.1 c.in_ok-index.ensures.2 c.in_ok-index.ensures.3 (λ i. empty_at {X = Edge} c.args.owners i))).kept

pub returns-clause-empty : goal.returns-clause-empty
returns-clause-empty c =
    let heads = c.in_ok-heads.ensures.items_if_clones_equal (λ y e. e) in
    let owners = c.requires.high_owners in
    let many = ap length heads in
    let shows = (leaves-new (record { cells = c.in_ok-cells.cells; heads = c.in_ok-heads.heads; free = c.args.count; free_count = c.args.count; size = c.args.count; index = c.in_ok-index.index; key = c.args.key }) c.args.owners
    (record { heads = heads; items = c.in_ok-cells.ensures.none; size = refl; count = refl; key = refl; most = c.requires.high; most_owners = omega (arith, many, owners, length-replicate c.args.owners c.args.count); room = c.in_ok-cells.ensures.room }) refl).shows in (
      ap (λ (v : CellLists). length v.lists) shows ∙ length-replicate {A = List Edge} c.args.owners [],
      refl,
      refl,
      λ i. ap (λ (v : CellLists). owned v.lists i) shows ∙ empty_at {X = Edge} c.args.owners i,
    )
