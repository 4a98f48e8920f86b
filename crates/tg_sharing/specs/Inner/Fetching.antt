-- loads that go from hand to hand: the rights that are to be shared, or take and grant over an envoy that has them
use Rattle.std.specs.Prelude.{◌≡◌, ◌≢◌, ◌<◌, ◌⊎◌, ℕ, Bool, true, false, Some}
use Rattle.tg_rights.specs.Promise.Letters.{Letters, Right, grant, includes, is_none}
use Rattle.tg_graph.specs.declared.derivation.Goal.{Goal}
use Rattle.tg_graph.specs.Promise.Rules.{last_serial}
use Rattle.tg_sharing.specs.declared.sharing.Found.{Found}
use Rattle.tg_sharing.specs.declared.sharing.Found.TheVariants as found
use Rattle.tg_graph.specs.Promise.Protection.{Protection}
use Rattle.tg_sharing.specs.Inner.Growing.{TakesFrom, KeepsAll}
use Rattle.tg_sharing.specs.Inner.Marking.{AreMarks, WasBridged, is_bridged, is_spanned, span_of}
use Rattle.tg_sharing.specs.Inner.Paths.{Holds}
use Rattle.tg_graph.specs.Promise.EachCommand.{HasOver}
use Rattle.tg_sharing.specs.Promise.Spans.{IsActor}
use Rattle.tg_sharing.specs.declared.builder.Load.{Load}
use Rattle.tg_sharing.specs.declared.carry.End.{End}
use Rattle.tg_sharing.specs.declared.marks.Marks.{Marks}
use Rattle.tg_sharing.specs.declared.marks.Span.{Span}
use Rattle.tg_sharing.specs.Promise.Fetching.{alone}

-- the actor, which is bridged by an earlier mark than that of the spanned vertex v, can take from v
pub record IsDrawn (G W : Protection) (m : Marks) (v root : ℕ) : Type 0 where
  pub actor : IsActor G root
  pub bridged : (s : Span) → span_of m v ≡ Some s → WasBridged m root s.rank
  pub draws : TakesFrom W root v

-- the actor, which is bridged by an earlier mark than that of v, has the load
pub record IsPassed (G W : Protection) (m : Marks) (v : ℕ) (load : Load) (next : ℕ) : Type 0 where
  pub actor : IsActor G next
  pub bridged : (s : Span) → span_of m v ≡ Some s → WasBridged m next s.rank
  pub held : Holds W next load.rights load.over

-- no marked vertex of the graph is this one
abbrev pub IsUnmarked : Protection → Marks → ℕ → Type 0
IsUnmarked G m v = (u : ℕ) → u < G.next → (is_spanned m u ≡ true) ⊎ (is_bridged m u ≡ true) → u ≢ v

-- x, who may act, has a load that goes from hand to hand, and can take from this vertex
pub record IsOnTheWay (G W : Protection) (m : Marks) (load : Load) (x at : ℕ) : Type 0 where
  pub keeps : KeepsAll G W
  pub marks : AreMarks G m
  pub actor : IsActor G x
  pub draws : TakesFrom W x at
  pub held : Holds W x load.rights load.over
  pub some : is_none load.rights ≡ false
  pub apart : IsUnmarked G m load.over

-- the goal's own vertex is to come to have these rights of a source
pub record IsSource (G W : Protection) (m : Marks) (goal : Goal) (α : Letters) (source : ℕ) : Type 0 where
  pub keeps : KeepsAll G W
  pub marks : AreMarks G m
  pub own : m.from ≡ goal.from
  pub held : Holds G source α goal.to
  pub some : is_none α ≡ false
  pub apart : goal.from ≢ goal.to

-- from here the goal's own vertex can take the load, or be given it
abbrev pub IsAtEnd : Protection → Marks → ℕ → Bool → Type 0
IsAtEnd G m at true = (at ≡ m.from) × IsActor G at
IsAtEnd G m at false = HasOver G at grant m.from

-- the load was brought there
pub record IsBrought (G W : Protection) (m : Marks) (load : Load) (end : End) : Type 0 where
  pub holder : IsActor G end.holder
  pub draws : TakesFrom W end.holder end.at
  pub held : Holds W end.holder load.rights load.over
  pub at_end : IsAtEnd G m end.at end.is_own

-- the envoy may act and has the rights
pub record IsEnvoy (W : Protection) (α : Letters) (to envoy : ℕ) : Type 0 where
  pub actor : IsActor W envoy
  pub ready : Holds W envoy α to

-- who has all the rights over a vertex: `from` itself, or one that is spanned
abbrev pub IsHolder : Protection → Marks → Letters → ℕ → ℕ → Type 0
IsHolder G m α to u = Holds G u α to × ((u ≡ m.from) ⊎ (is_spanned m u ≡ true))

-- the goal has these rights, and who could pass them on lacks them
abbrev pub IsLacking : Protection → Marks → Letters → Goal → Type 0
IsLacking G m α goal = (includes goal.rights α ≡ true) × ((u : ℕ) → IsHolder G m α goal.to u → ⊥)

-- what came of some rights of a goal, when the graph is W
abbrev pub IsFetched : Protection → Protection → Marks → Letters → Goal → Found → Type 0
IsFetched G W m α goal found.Nobody = IsLacking G m α goal
IsFetched G W m α goal found.NoSerial = last_serial < W.next
IsFetched G W m α goal found.Here = includes goal.rights α ≡ true → Holds W goal.from α goal.to

-- and of all
abbrev pub AreFetched : Protection → Protection → Marks → Goal → Found → Type 0
AreFetched G W m goal found.Nobody = (r : Right) × IsLacking G m (alone r) goal
AreFetched G W m goal found.NoSerial = last_serial < W.next
AreFetched G W m goal found.Here = (r : Right) → includes goal.rights (alone r) ≡ true → Holds W goal.from (alone r) goal.to
