-- how figures and arrows are gathered, slot by slot
use Rattle.std.specs.Prelude.{ℕ, nat_eq, Bool, cond, List, [], map, Option, Some, None}
use Rattle.std.specs.List.{filter}
use Rattle.std.specs.Option.{option_eq}
use Rattle.tg_graph.specs.Promise.Opening as graph
use Rattle.tg_marking.specs.Promise.Values.{Edge, spot_edges}
use Rattle.tg_collect.specs.Promise.Readings.{serial_in_slot, place, spot_at}
use Rattle.tg_collect.specs.Promise.Stored.{Stored}

-- ---- how they are gathered

-- the serial of a slot's vertex, if it is held or the parked ones count too
abbrev pub source_at : Stored → Bool → ℕ → Option ℕ
source_at v with_parked i = cond with_parked (serial_in_slot v i) (place v i)

-- whether the slot that an edge leads to has its serial still
abbrev pub is_there : Stored → Edge → Bool
is_there v e = option_eq nat_eq (serial_in_slot v e.target) (Some e.serial)

-- the edges that are shown of a slot's vertex, which has this serial, in the order of its cells
abbrev pub edge_from : ℕ → Edge → graph.ListedEdge
edge_from x e = (x, e.rights, e.serial)

abbrev pub arrows_from : Stored → Option ℕ → ℕ → List graph.ListedEdge
arrows_from v None i = []
arrows_from v (Some x) i = map (edge_from x) (filter (is_there v) (spot_edges (spot_at v i)))

abbrev pub arrows : Stored → Bool → ℕ → List graph.ListedEdge
arrows v with_parked i = arrows_from v (source_at v with_parked i) i
