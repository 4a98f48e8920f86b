use Rattle.std.proofs.Common.{sym, ap, List, ◌∙◌, subst, length}
use Rattle.tg_lists.specs.Promise.Membership.{Contains}
use Rattle.tg_slots.specs.Promise.Table.{Table}
use Rattle.tg_slots.proofs.FreshLemmas.{nones_length}
use Rattle.tg_cells.specs.Promise.Lists.{Edge}
use Rattle.tg_heap.proofs.heap.Heap.with_key.Goals as goal

pub invariant_of-result : goal.invariant_of-result
invariant_of-result c =
    let cells = c.in_ok-cells.ensures.empty in
    record {
      owners = cells.0 ∙ sym (ap (λ (t : Table). length t.slots) c.in_ok-table.ensures ∙ nones_length c.args.slots);
      targets = λ i e h. absurd (subst (λ (l : List Edge). Contains l e) (cells.3 i) h);
      free_bare = λ i f. cells.3 i;
    }
