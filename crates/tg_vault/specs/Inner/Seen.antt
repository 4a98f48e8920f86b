-- a state as a command sees it
use Rattle.std.specs.Prelude.{ℕ, List}
use Rattle.std.specs.Ordering.{nat_cmp}
use Rattle.std.specs.FinSet as set
use Rattle.tg_graph.specs.declared.member.Member.{Member}
use Rattle.tg_graph.specs.Promise.Protection.{Protection}
use Rattle.tg_collect.specs.Promise.Stored.{Stored}
use Rattle.tg_collect.specs.Promise.Readings.{held}
use Rattle.tg_vault.specs.declared.carry_out.State.{State}

-- what is held, as a graph with this next serial, these active principals, and those who have retired
abbrev pub graph_seen : Stored → (next : ℕ) → List Member → set.FinSet nat_cmp → Protection
graph_seen s next names retired = record (held s next) { names = names; retired = retired }

-- the set of these serials
abbrev pub set_of : List ℕ → set.FinSet nat_cmp
set_of keys = set.from_list keys

-- what a command sees of a state: what is held, with what is kept besides
abbrev pub seen_in : State → Protection
seen_in s = graph_seen s.store s.next s.names (set_of s.retired.keys)
