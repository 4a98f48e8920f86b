-- the graph with which a vault begins anew
use Rattle.std.specs.FinMap as map
use Rattle.std.specs.FinSet as set
use Rattle.tg_graph.specs.Promise.Protection.{Protection}
use Rattle.tg_vault.specs.Promise.Contents.{Contents, graph_now, held_now}

-- what is held, as a graph with which a history may begin: of those who have retired it has the ones that are held
abbrev pub reopening : Contents → Protection
reopening v = record (held_now v) { retired = set.retain (graph_now v).retired (λ x. map.contains_key (held_now v).vertices x) }
