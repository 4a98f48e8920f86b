use Rattle.std.proofs.Common.{ℕ, rules}
use Rattle.tg_rights.specs.Promise.Letters.{Letters}
use Rattle.std.proofs.lemmas.List.Sorted.{IsNonDecreasingBy-from_sort_by_key}
use Rattle.tg_marking.specs.Promise.Values.{as_kept}
use Rattle.tg_collect.specs.Inner.Stored.{stored}
use Rattle.tg_collect.proofs.StoreLemmas.{holds, placed_within, once_stored, owner, serial_is}
use Rattle.tg_collect.proofs.EdgesLemmas.{edges_listed, is_store}
use Rattle.tg_collect.proofs.store.Store.edges.Goals as goal

pub edge_list-requires : goal.edge_list-requires
edge_list-requires c = placed_within c.self.inside.machine c.args.id (rw (← c.self.view_is) at c.requires)

pub returns : goal.returns
returns c = rw (← c.self.view_is) (λ next.
    let m = c.self.inside.machine in
    let h = holds m c.args.id (rw (← c.self.view_is) at c.requires) in
    let s = is_store m c.soundness.ensures.sound c.self.invariant in
    let edges = c.sort_unstable_by_key.new.self.items in
    rw (serial_is h) (edges_listed (stored m) (once_stored m c.self.invariant) s.closed s.serials s.labelled next c.args.id (as_kept (owner h)) h.shows edges
    (rw c.in_ok-edges.ensures at c.sort_unstable_by_key.ensures.permutation)
    (IsNonDecreasingBy-from_sort_by_key (λ (e : ℕ × Letters). e.0) edges c.sort_unstable_by_key.ensures.sorted (λ a r q k. search rules))))
