-- how much may be stored, and when a history alone permits that an allowed command is refused as full
use Rattle.std.specs.Prelude.{◌≡◌, ◌<◌, ◌≤◌, ℕ, if◌then◌else◌, true, length, sum_by}
use Rattle.std.specs.FinMap as map
use Rattle.tg_rights.specs.Promise.Letters.{Letters, is_none}
use Rattle.tg_rights.specs.declared.command.Command.{Command}
use Rattle.tg_rights.specs.declared.outcome.Which.{Which}
use Rattle.tg_rights.specs.declared.outcome.Which.TheVariants as which
use Rattle.tg_rights.specs.declared.outcome.Outcome.{Outcome}
use Rattle.tg_rights.specs.declared.outcome.Outcome.TheVariants as outcome
use Rattle.tg_graph.specs.Promise.Terms as effect
use Rattle.tg_graph.specs.Promise.Protection.{Protection, IsEdge}
use Rattle.tg_graph.specs.Promise.Terms.{Does, terms}
use Rattle.tg_graph.specs.Promise.Rules.{Allowed, Denied, edges_of, is_create, last_serial}

-- the numbers of slots, one for each vertex that is stored, and of cells, one for each edge
pub record Limits : Type 0 where
  pub slots : ℕ
  pub cells : ℕ

abbrev pub vertex_count : Protection → ℕ
vertex_count G = length (map.keys G.vertices)

abbrev pub edge_count : Protection → ℕ
edge_count G = sum_by (λ x. length (edges_of G x)) (map.keys G.vertices)

-- the edges that a label makes: one if it is not empty
abbrev pub edges_at : Letters → ℕ
edges_at l = if is_none l then 0 else 1

-- what an allowed command does makes an edge where there was none
abbrev pub NewEdge : Protection → Does → Type 0
NewEdge G (effect.Joins from α to) = IsEdge G from to → ⊥
NewEdge G (effect.Makes k α name) = G.next ≤ last_serial
NewEdge G _ = ⊥

abbrev pub MakesEdge : Protection → ℕ → Command → Type 0
MakesEdge G x c = NewEdge G (terms x c).does

-- the command of x may be refused as full. The graph does not show which slots and cells wait to be swept, so for these
-- it says only that there are enough vertices or edges to use them all up
abbrev pub MayBeFull : Limits → Protection → ℕ → Command → Which → Type 0
MayBeFull limits G x c which.Serials = (is_create x c ≡ true) × (last_serial < G.next)
MayBeFull limits G x c which.Slots = (is_create x c ≡ true) × (G.next ≤ last_serial) × (limits.slots ≤ vertex_count G)
MayBeFull limits G x c which.Cells = MakesEdge G x c × (limits.cells ≤ edge_count G)

-- the outcomes that an entry of a history may have
abbrev pub Permitted : Limits → Protection → ℕ → Command → Outcome → Type 0
Permitted limits G x c outcome.Allowed = Allowed G x c × (is_create x c ≡ true → G.next ≤ last_serial)
Permitted limits G x c (outcome.Denied rule cause) = Denied G x c rule cause
Permitted limits G x c (outcome.Full which) = Allowed G x c × MayBeFull limits G x c which
