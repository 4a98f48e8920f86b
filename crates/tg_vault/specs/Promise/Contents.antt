-- what a vault holds, how that fits the graph of its history, and what an answer says of the store
use Rattle.std.specs.Prelude.{◌≡◌, ◌<◌, ℕ, ◌-◌, List, [], length, Option, Some, None, All, replicate, ◌≤◌, ◌+◌, true, ◌⊎◌, ◌≢◌, ◌↔◌, ◌∷◌, ◌++◌, slice_set}
use Rattle.tg_lists.specs.Promise.Membership.{Contains}
use Rattle.tg_rights.specs.declared.limits.TheConstants.{SEATS, MAX_CELLS, MAX_SLOTS}
use Rattle.tg_graph.specs.Promise.Protection.{Protection, IsPart, Live, IsGraph, IsVertex, is_active}
use Rattle.tg_graph.specs.declared.config.Config.{Config}
use Rattle.tg_graph.specs.Promise.Fullness.{Limits, vertex_count, edge_count, NewEdge}
use Rattle.tg_graph.specs.Promise.Opening as config
use Rattle.tg_collect.specs.Promise.Stored.{Stored}
use Rattle.tg_collect.specs.Promise.Readings.{IsParkedIn, agent_of, agents, held, pending, pending_of, free_slots, phase, IsHeldIn, parked_count, principals, slot_count}
use Rattle.tg_vault.specs.declared.entry.Entry.{Entry}
use Rattle.tg_vault.specs.declared.event.Event.{Event}
use Rattle.tg_vault.specs.declared.event.Answer.{Answer}
use Rattle.tg_collect.specs.declared.note.Phase.TheVariants.{Idle}
use Rattle.tg_graph.specs.declared.member.Member.{Member}
use Rattle.tg_vault.specs.Promise.History.{Legal, WasPrincipal, graph_of, WasAssumed}
use Rattle.tg_vault.specs.Promise.World.{Moment, Step, Run, at_seat, World, in_use}
use Rattle.tg_vault.specs.Promise.Seen.{serials}
use Rattle.tg_rights.specs.declared.outcome.Which.{Which}
use Rattle.tg_rights.specs.declared.outcome.Which.TheVariants as which
use Rattle.tg_rights.specs.declared.outcome.Outcome.TheVariants as outcome
use Rattle.tg_graph.specs.Promise.Terms.{Does, terms}
use Rattle.tg_graph.specs.Promise.Rules.{Allowed, is_new, last_serial}
use Rattle.tg_vault.specs.declared.event.Event.TheVariants as event
use Rattle.tg_vault.specs.declared.event.Answer.TheVariants as answer

-- the opening graph, the active principals, the numbers of slots and cells, who sits on each seat, what is stored, and
-- the history. The graph of the history exists in definitions only
pub record Contents : Type 0 where
  pub opening : Protection
  pub names : List Member
  pub limits : Limits
  pub seats : List (Option ℕ)
  pub store : Stored
  pub history : List Entry

-- the graph of the history
abbrev pub graph_now : Contents → Protection
graph_now v = graph_of v.opening v.history

-- what is held, as a graph with the next serial and the principals of the history
abbrev pub held_now : Contents → Protection
held_now v = record (held v.store (graph_now v).next) { names = (graph_now v).names; retired = (graph_now v).retired }

-- the world of the vault, with its entries
abbrev pub moment : Contents → Moment
moment v = record {
  world = record { graph = graph_now v; seats = v.seats; agents = agents v.store; pending = pending v.store; used = v.limits.slots - free_slots v.store };
  history = v.history;
}

-- what no event changes; the key by which edges are found is the store's
pub record Keeps (old new : Contents) : Type 0 where
  pub opening : new.opening ≡ old.opening
  pub limits : new.limits ≡ old.limits
  pub key : new.store.key ≡ old.store.key

-- the vault gives the event this answer
abbrev pub StepOf : Contents → Event → Answer → Contents → Type 0
StepOf old e a new = Step old.limits (moment old) e a (moment new)

abbrev pub RunOf : Contents → List Event → List Answer → Contents → Type 0
RunOf old es answers new = Run old.limits (moment old) es answers (moment new)

-- the history is legal, the table has one place for each seat, and nobody sits there but principals and those who were
pub record IsVault (v : Contents) : Type 0 where
  pub legal : Legal v.limits v.opening v.history (graph_now v)
  pub sat : All (λ e. e.seat < SEATS) v.history
  pub seats : length v.seats ≡ SEATS
  pub seated : (seat x : ℕ) → at_seat v.seats seat ≡ Some x → WasPrincipal (graph_now v) v.history x

-- the vault of a configuration, before any event
pub record IsFresh (c : Config) (v : Contents) : Type 0 where
  pub opening : v.opening ≡ config.opening c
  pub names : v.names ≡ (config.opening c).names
  pub limits : v.limits ≡ record { slots = c.slots; cells = c.cells }
  pub seats : v.seats ≡ replicate SEATS None
  pub history : v.history ≡ []
  pub held : held_now v ≡ config.opening c
  pub unparked : (x : ℕ) → IsParkedIn v.store x → ⊥
  pub phase : phase v.store ≡ Idle
  pub idle : (seat : ℕ) → pending_of v.store seat ≡ None
  pub alone : (seat : ℕ) → agent_of v.store seat ≡ None

-- x is the seat's pending target or its agent
abbrev pub IsOfSeat : World → (seat x : ℕ) → Type 0
IsOfSeat w seat x = (at_seat w.pending seat ≡ Some x) ⊎ (at_seat w.agents seat ≡ Some x)

-- the roots of a world are the active principals, the pending targets and the agents
abbrev pub IsRoot : World → ℕ → Type 0
IsRoot w x = (is_active w.graph x ≡ true) ⊎ ((seat : ℕ) × IsOfSeat w seat x)

-- a vertex has a slot: it is held, or parked until the sweep comes to it
abbrev pub HasSlot : Contents → ℕ → Type 0
HasSlot v x = IsHeldIn v.store x ⊎ IsParkedIn v.store x

-- a seat with a pending target or an agent is in use
abbrev pub AreTaken : World → Type 0
AreTaken w = (seat x : ℕ) → IsOfSeat w seat x → in_use w seat ≡ true

-- what a vault keeps besides what its store keeps of itself
pub record Ties (v : Contents) : Type 0 where
  pub vault : IsVault v
  pub opened : IsGraph v.opening
  pub part : IsPart (graph_now v) (held_now v)
  pub parked : (x : ℕ) → IsParkedIn v.store x → IsVertex (graph_now v) x
  pub names : v.names ≡ (graph_now v).names
  pub principals : principals v.store ≡ serials v.names
  pub assumed : (seat x : ℕ) → at_seat (agents v.store) seat ≡ Some x → WasAssumed v.history seat x
  pub taken : AreTaken (moment v).world
  pub slots : slot_count v.store ≡ v.limits.slots
  pub cells : v.store.cells ≡ v.limits.cells
  pub many_slots : v.limits.slots ≤ free_slots v.store + vertex_count (graph_now v)
  pub many_cells : v.limits.cells ≤ v.store.free_cells + edge_count (graph_now v)

-- a vault has at most this many slots and cells
pub record IsSmall (v : Contents) : Type 0 where
  pub slots : v.limits.slots ≤ MAX_SLOTS
  pub cells : v.limits.cells ≤ MAX_CELLS

-- the history is legal, and what is stored is what of its graph is still in use: each held vertex has the graph's kind,
-- text and edges, which lead to held ones; what a root reaches is held; held and parked are apart, and vertices of the
-- graph; free slots are those that neither has; the cells in use are at least the edges of what is held, exactly these
-- if nothing is parked, and at most those of the graph; the store's principals are the graph's; and each seat has a place
-- in each table
pub record Fits (v : Contents) : Type 0 where
  pub legal : Legal v.limits v.opening v.history (graph_now v)
  pub part : IsPart (graph_now v) (held_now v)
  pub live : (x : ℕ) → Live (graph_now v) (IsRoot (moment v).world) x → IsHeldIn v.store x
  pub apart : (x : ℕ) → IsHeldIn v.store x → IsParkedIn v.store x → ⊥
  pub of_graph : (x : ℕ) → HasSlot v x → IsVertex (graph_now v) x
  pub slots : free_slots v.store + vertex_count (held_now v) + parked_count v.store ≡ v.limits.slots
  pub few_cells : v.store.free_cells + edge_count (held_now v) ≤ v.limits.cells
  pub many_cells : v.limits.cells ≤ v.store.free_cells + edge_count (graph_now v)
  pub all_cells : ((x : ℕ) → IsParkedIn v.store x → ⊥) → v.store.free_cells + edge_count (held_now v) ≡ v.limits.cells
  pub principals : (x : ℕ) → Contains (principals v.store) x ↔ (is_active (graph_now v) x ≡ true)
  pub seats : length v.seats ≡ SEATS
  pub targets : length (pending v.store) ≡ SEATS
  pub agents : length (agents v.store) ≡ SEATS

-- the first of serials, slots and cells that an effect needs and that is used up
abbrev pub IsUsedUp : Protection → (free_slots free_cells : ℕ) → Does → Which → Type 0
IsUsedUp G free_slots free_cells d which.Serials = (is_new d ≡ true) × (last_serial < G.next)
IsUsedUp G free_slots free_cells d which.Slots = (is_new d ≡ true) × (G.next ≤ last_serial) × (free_slots ≡ 0)
IsUsedUp G free_slots free_cells d which.Cells = NewEdge G d × (is_new d ≡ true → free_slots ≢ 0) × (free_cells ≡ 0)

-- the command that is entered is full for serials, slots or cells exactly if the rules allow it and these are the first
-- that it needs and that are used up
pub record IsExact (old new : Contents) : Type 0 where
  pub entry : Entry
  pub added : new.history ≡ old.history ++ entry ∷ []
  pub full : (w : Which) → (entry.outcome ≡ outcome.Full w) ↔ (Allowed (graph_now old) entry.actor entry.command × IsUsedUp (graph_now old) (free_slots old.store) old.store.free_cells (terms entry.actor entry.command).does w)

-- what an answer that the world allows says of the store: a hello leaves it, a bye takes the seat's agent away and
-- leaves all else, a command is full exactly if something is used up, and a fault leaves the whole vault
abbrev pub StoreAnswer : Contents → Event → Answer → Contents → Type 0
StoreAnswer old (event.Hello seat name) (answer.Hello x) new = new.store ≡ old.store
StoreAnswer old (event.Bye seat) answer.Bye new = new.store ≡ record old.store { roots = record old.store.roots { agents = slice_set old.store.roots.agents seat None } }
StoreAnswer old (event.Ask seat c) (answer.Asked number reply) new = IsExact old new
StoreAnswer old _ (answer.Seat fault) new = new ≡ old
StoreAnswer old _ (answer.Ask fault) new = new ≡ old
StoreAnswer old _ _ new = Unit {0}
