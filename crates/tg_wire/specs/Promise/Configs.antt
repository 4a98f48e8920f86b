-- the values of a goal and of a configuration
use Rattle.std.specs.Prelude.{ℕ, List, length, Option, Some, codes}
use Rattle.serde_json.specs.Data.{Data}
use Rattle.tg_rights.specs.Promise.Letters.{Letters}
use Rattle.tg_graph.specs.declared.config.Config.{Config}
use Rattle.tg_graph.specs.declared.derivation.Goal.{Goal}
use Rattle.tg_wire.specs.Promise.Fields.{◌>>=◌, number_in, rights_in, texts_in, edges_in, next_in, slots_in, cells_in}

abbrev pub goal_in : Data → Option Goal
goal_in d = do
  from ← number_in (codes "from") d
  to ← number_in (codes "to") d
  rights ← rights_in d
  Some (record { from = from; to = to; rights = rights })

-- a configuration by the lists in its fields
pub record Opening : Type 0 where
  pub principals : List (List ℕ)
  pub edges : List (ℕ × Letters × ℕ)
  pub next : ℕ
  pub slots : ℕ
  pub cells : ℕ

abbrev pub opening_of : Config → Opening
opening_of c = record { principals = c.principals.items; edges = c.edges.items; next = c.next; slots = c.slots; cells = c.cells }

abbrev pub opening_in : Data → Option Opening
opening_in d = do
  principals ← texts_in (codes "principals") d
  edges ← edges_in d
  next ← next_in (length principals) d
  slots ← slots_in d
  cells ← cells_in d
  Some (record { principals = principals; edges = edges; next = next; slots = slots; cells = cells })
