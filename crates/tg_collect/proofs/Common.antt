-- What the lemma files take from the crates below, and of the words of this one.
pub use Rattle.std.proofs.Math.ListN.{get_or-map}
pub use Rattle.std.proofs.lemmas.Bool.{cases_eq, ne_eqb}
pub use Rattle.std.proofs.lemmas.List.Folds.{Any-from_list_any, list_any_at}
pub use Rattle.std.proofs.lemmas.List.{drop_all, ext_get_or, get_or_default, length-map, length-replicate, map-set, set-get_or, set-set}
pub use Rattle.std.proofs.lemmas.List.Sorted.{IsPermutation-map, IsPermutation-sym, ranks_by, sorted_far}
pub use Rattle.std.proofs.lemmas.List.Elements.{filter-append, recursion_from_All}
pub use Rattle.std.proofs.lemmas.List.Sums.{count_by-le-length, length-filter, sum_by-append, sum_by-cons, sum_by-le-sum_by}
pub use Rattle.std.proofs.lemmas.Map.Keys.{IsDistinct-IsPermutation, apart_from_distinct}
pub use Rattle.std.proofs.lemmas.Option.{same_Some}
pub use Rattle.std.specs.Bool.{then_some}
pub use Rattle.std.specs.Cmp.{nat_cmp_total, unsigned_tied, IsTotalOrder, eq_by_cmp_equiv, on_total, ranks, then_total}
pub use Rattle.std.specs.FinMap.{contains_key-keys, find, get-from_entries}
pub use Rattle.std.specs.FinSet.{contains-empty}
pub use Rattle.std.specs.List.{filter}
pub use Rattle.std.specs.List.Sorted.{IsNonDecreasingBy, IsPermutation, IsSortedBy, IsSortedByKey}
pub use Rattle.std.specs.Option.{is_some, option_map, unwrap_or, option_eq, option_to_list}
pub use Rattle.std.specs.Ordering.{eq_by_cmp, is_lt, nat_cmp, MatchOrdering, is_eq, ordering_reverse, ordering_then}
pub use Rattle.std.specs.Prelude.{IfErr, OnErr, OnOk, ◌↔◌}
pub use Rattle.std.specs.declared.cmp.Ordering.{Ordering}
pub use Rattle.std.specs.declared.cmp.Ordering.TheVariants.{Equal, Greater, Less}
pub use Rattle.tg_lists.proofs.MembershipLemmas.{contains_append, contains_left, contains_map, contains_middle, contains_right, map_append, same_by, split_at}
pub use Rattle.tg_lists.specs.Promise.Membership.{Contains, Distinct}
pub use Rattle.tg_rights.proofs.Bools.{and_both}
pub use Rattle.tg_rights.proofs.LettersLemmas.{has_none, is_none-none, right_some, some_right}
pub use Rattle.tg_rights.specs.Promise.Letters.{Letters, Right, grant, has, includes, is_none, joined, none, read, rights_where, take, without, write}
pub use Rattle.tg_rights.specs.declared.kind.Kind.{Kind}
pub use Rattle.tg_rights.specs.declared.kind.Kind.TheVariants.{Subject}
pub use Rattle.tg_rights.specs.declared.limits.TheConstants.{MAX_PRINCIPALS, SEATS}
pub use Rattle.tg_graph.proofs.CommandsKeepGraphsLemmas.{principals_are_few}
pub use Rattle.tg_graph.proofs.EdgesAreCountedLemmas.{edge_count-sums, edge_count-union, keys_occur_once, keys_apart, sorted_rises}
pub use Rattle.tg_graph.proofs.LabelLemmas.{contains-label, difference-Relabels, union-Relabels}
pub use Rattle.tg_graph.proofs.LawsLemmas.{edge_list, subjects-first}
pub use Rattle.tg_graph.specs.Promise.Laws.{IsEdgeList}
pub use Rattle.tg_graph.proofs.EdgesAreListedLemmas.{vertex_listed}
pub use Rattle.tg_graph.proofs.ListedLemmas.{mapped, ones, permuted, rises_append, rises_by, rises_map, same_in_order, serials_distinct, sum_among, ends_tied, placed, serial_tied}
pub use Rattle.tg_graph.proofs.OpeningLemmas.{subjects-has, subjects-within}
pub use Rattle.tg_graph.proofs.OutcomesAgreeLemmas.{leads_on}
pub use Rattle.tg_graph.proofs.PartsStayLemmas.{label-relabelled}
pub use Rattle.tg_graph.proofs.RollLemmas.{any_is, contains_filter, is_any, filter_contains, untrue}
pub use Rattle.tg_graph.proofs.ProtectionLemmas.{edge_from, edge_to}
pub use Rattle.tg_graph.proofs.TriplesLemmas.{same_triples}
pub use Rattle.tg_graph.specs.Promise.Fullness.{edge_count, edges_at, vertex_count}
pub use Rattle.tg_graph.specs.Promise.Protection.{IsRoll, IsPart, Live, IsEdge, IsGraph, Protection, kind_of, vertex, Triple, Triples, edge}
pub use Rattle.tg_graph.specs.Promise.Opening.{principal_count, subjects}
pub use Rattle.tg_graph.specs.Promise.Parts.{Listed, Rises}
pub use Rattle.tg_graph.specs.Promise.Rules.{with_text}
pub use Rattle.tg_graph.specs.declared.member.Member.{Member}
pub use Rattle.tg_graph.specs.declared.vertex.Vertex.{Vertex}
pub use Rattle.tg_slots.proofs.FreshLemmas.{indices_length, nones_free, nones_length}
pub use Rattle.tg_slots.specs.Promise.Table.{Free, Has, Table, coloured, fresh, if_free, in_slot, indices, slot}
pub use Rattle.tg_slots.specs.declared.colour.Colour.{Colour}
pub use Rattle.tg_slots.specs.declared.colour.Colour.TheVariants.{Black, Grey, White}
pub use Rattle.tg_slots.specs.declared.slots.Occupant.{Occupant}
pub use Rattle.tg_cells.specs.Promise.Lists.{Edge, Found, HasNone, IsLinkedBy, Stands, cells, first_cell, edge_serials}
pub use Rattle.tg_heap.proofs.CursorLemmas.{passed, remaining_split, split_whole}
pub use Rattle.tg_heap.specs.Promise.Calls.{IsAdded, IsDropped, relabelled}
pub use Rattle.tg_heap.proofs.JoinLemmas.{first_is}
pub use Rattle.tg_heap.specs.Promise.Graph.{HeapGraph, IsHeap, edges, mark_at, painted, shaded}
pub use Rattle.tg_heap.specs.Inner.Marking.{remaining}
pub use Rattle.tg_heap.specs.declared.heap.Dropped.{Dropped}
pub use Rattle.tg_heap.specs.declared.heap.Dropped.TheVariants.{Gone, Kept as Stayed}
pub use Rattle.tg_heap.specs.declared.heap.HeapFull.{HeapFull}
pub use Rattle.tg_marking.proofs.LeftLemmas.{bounded, counted, left_drops, left_most, left_places, left_puts, left_rewrites, left_shade, same_roots, left_some}
pub use Rattle.tg_marking.proofs.SessionLemmas.{blank_keeps, drops_keeps, idle_stays, new_keeps, places_keeps, puts_keeps, reroots_keeps, rewrites_keeps, shades_keeps, trims_stage}
pub use Rattle.tg_marking.proofs.MutatorLemmas.{still_lead}
pub use Rattle.tg_marking.proofs.KeepLemmas.{turns_name, line_collected, line_keeps}
pub use Rattle.tg_marking.proofs.SpotLemmas.{at_within, contains_mapped, held_keeps, keeps_grey, kept_is, kept_name, put_each, shade_each, shade_kept, shade_name, shade_size}
pub use Rattle.tg_marking.specs.Promise.Invariant.{Closed, Invariant, IsLive, IsScanned, Phased, along, at_root}
pub use Rattle.tg_marking.specs.Promise.Left.{Celled, held_cells, held_one, left, parked_cells}
pub use Rattle.tg_marking.specs.Promise.Values.{free_one, total, AtRest, Body, HasRoot, IsRootSlot, IsTarget, Kept, Spot, Stage, as_kept, keeps, slot_mark, spot_mark, slot_serial, spot_serial, out, seen, spot_edges}
pub use Rattle.tg_marking.specs.Promise.Runs.{IsLiveIn, IsLiveOrNew, BodyRun, Sane}
pub use Rattle.tg_marking.specs.Promise.Steps.{DropsEdge, Line, Places, PutsEdge, Reroots, RewritesEdge, Trims, ahead, blackens, elsewhere, finishes, frees, new_colour, put, scans, shade, shade_all, shades_target, skips, starts, starts_sweep, strips, takes, whitens}
pub use Rattle.tg_collect.proofs.HeldLemmas.{comes, contains-held, drops, gains, joins, says_edge, says_slot}
pub use Rattle.tg_collect.specs.Promise.Held.{Apart, entries, vertex_of}
pub use Rattle.tg_collect.specs.Promise.Stored.{IsListed, RootLists, all_slots, assuming, bare, slot_of, slots_of, with_agent, with_principal, with_target, without_principal, Stored}
pub use Rattle.tg_collect.specs.Inner.Machine.{Adds, AreRoots, AreWithin, CursorFits, Counts, LinksTo, Puts, Rerooted, SetsText, ShadesSeat, Steps, Whole, all_shaded, body, body_of, colour_ahead, has_passed, is_at, join, lists_of, other_slots, progress_dropped, progress_in, progress_of, progress_without, with_shaded, zip}
pub use Rattle.tg_collect.specs.Promise.Openings.{Opened, OpeningsCanBeStored, Opens, first_serials}
pub use Rattle.tg_collect.specs.Inner.Openings.{HasOpened, OpensEdges, OpensFirst, first_root, first_roots, KeepsSize, OpensAll, rank}
pub use Rattle.tg_collect.specs.Promise.Readings.{IsEdgeIn, IsHeldIn, IsParkedIn, IsRootAt, IsRootIn, agents, cycle_bound, free_slots, held, kept, kept_from, pending, pending_of, phase, phase_in, place, principals, root_serial, serial_at, kept_serial, shown_body, slot_count, spot_at, triples, vertices}
pub use Rattle.tg_collect.specs.Promise.Runs.{CallsAct, StoresAreBounded, StoresAreComplete, StoreRun, acts, goes, start}
pub use Rattle.tg_collect.specs.Promise.Sessions.{Acted, Assumed, SlotChanged, EdgeStored, LedTo, AgentLeft, PrincipalStored, Retired, RightsRemoved, Shaded, TargetShaded, TextReplaced, VertexStored}
pub use Rattle.tg_collect.specs.Inner.Stored.{stored}
pub use Rattle.tg_collect.specs.Promise.Views.{Collected, IsStore, most_marks}
pub use Rattle.tg_collect.specs.declared.machine.Machine.{Machine}
pub use Rattle.tg_collect.specs.declared.machine.Progress.{Progress}
pub use Rattle.tg_collect.specs.declared.machine.Progress.TheVariants.{Idle, Marking, Sweeping}
pub use Rattle.tg_collect.specs.declared.machine.Root.{Root}
pub use Rattle.tg_collect.specs.declared.machine.Roots.{Roots}
