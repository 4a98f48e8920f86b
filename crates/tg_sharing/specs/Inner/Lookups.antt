-- how the vertices that are looked up are gathered
use Rattle.std.specs.Prelude.{ℕ, Bool, true, false, cond, List, Option, None, Some}
use Rattle.tg_lists.specs.Promise.Membership.{Contains}
use Rattle.tg_rights.specs.Promise.Letters.{Letters, includes}
use Rattle.tg_graph.specs.Promise.Protection.{Protection, IsEdge, IsVertex}
use Rattle.tg_sharing.specs.declared.prospect.Could.{Could}
use Rattle.tg_sharing.specs.declared.prospect.Could.TheVariants as could
use Rattle.tg_sharing.specs.Promise.Lookups.{holder_goal, target_goal, present}

-- the list has the ends of all edges, and only vertices
pub record AreEnds (G : Protection) (ends : List ℕ) : Type 0 where
  pub there : (v : ℕ) → Contains ends v → IsVertex G v
  pub whole : (x y : ℕ) → IsEdge G x y → Contains ends x × Contains ends y

abbrev pub is_unknown : Could → Bool
is_unknown could.Never = false
is_unknown could.Ever = false
is_unknown could.Unknown = true

-- a vertex that could come to have the rights, with those that it has
abbrev pub holder_of : Protection → Letters → ℕ → ℕ → Could → Option (ℕ × Letters)
holder_of G α to v could.Never = None
holder_of G α to v could.Ever = Some (v, present G (holder_goal α to v))
holder_of G α to v could.Unknown = None

-- a vertex over which this label has the rights, with those that are there
abbrev pub target_found : Protection → Letters → ℕ → ℕ → Letters → Option (ℕ × Letters)
target_found G α from v l = cond (includes l α) (Some (v, present G (target_goal α from v))) None
