-- when each command is allowed, what it does, and when it may be full, said again for each by itself
use Rattle.std.specs.Prelude.{◌≡◌, ◌≢◌, ◌<◌, ◌≤◌, ◌⊎◌, ◌↔◌, ℕ, ◌+◌, ◌==◌, ◌&&◌, ◌||◌, not, List, [], Some, true, false}
use Rattle.std.specs.FinSet as set
use Rattle.tg_rights.specs.Promise.Letters.{Letters, Right, read, write, take, grant, has, is_none}
use Rattle.tg_rights.specs.declared.kind.Kind.{Kind}
use Rattle.tg_rights.specs.declared.kind.Kind.TheVariants as kind
use Rattle.tg_rights.specs.declared.command.Command.{Command}
use Rattle.tg_rights.specs.declared.command.Command.TheVariants as command
use Rattle.tg_rights.specs.declared.outcome.Cause.TheVariants as cause
use Rattle.tg_rights.specs.declared.outcome.Reply.TheVariants as reply
use Rattle.tg_rights.specs.declared.outcome.Which.{Which}
use Rattle.tg_rights.specs.declared.outcome.Which.TheVariants as which
use Rattle.tg_graph.specs.Promise.Protection.{IsMember, MayBeNamed, Protection, Triple, has_retired, kind_of, label, vertex}
use Rattle.tg_graph.specs.Promise.Rules.{Allowed, after, allowed_reply, denial, edges_of, is_create, last_serial, takes_memory, text_of}
use Rattle.tg_graph.specs.Promise.Fullness.{Limits, MakesEdge, MayBeFull, edge_count, vertex_count}

-- one vertex has a right over another
abbrev pub HasOver : Protection → ℕ → Right → ℕ → Type 0
HasOver G from r to = has (label G from to) r ≡ true

-- it has each of these rights
abbrev pub HasAllOver : Protection → ℕ → Letters → ℕ → Type 0
HasAllOver G from α to = (r : Right) → has α r ≡ true → HasOver G from r to

-- x takes rights over y from z: z has them, and x has take over z
pub record MayTake (G : Protection) (x : ℕ) (α : Letters) (y z : ℕ) : Type 0 where
  pub unretired : has_retired G x ≡ false
  pub some : is_none α ≡ false
  pub apart : (x ≢ y) × (x ≢ z) × (y ≢ z)
  pub over : HasOver G x take z
  pub there : HasAllOver G z α y

-- x grants rights over y to z: x has them, and has grant over z
pub record MayGrant (G : Protection) (x : ℕ) (α : Letters) (y z : ℕ) : Type 0 where
  pub unretired : has_retired G x ≡ false
  pub some : is_none α ≡ false
  pub apart : (x ≢ y) × (x ≢ z) × (y ≢ z)
  pub over : HasOver G x grant z
  pub own : HasAllOver G x α y

-- x makes a vertex, over which it is to have some rights
pub record MayCreate (G : Protection) (x : ℕ) (α : Letters) : Type 0 where
  pub unretired : has_retired G x ≡ false
  pub some : is_none α ≡ false

-- x removes rights of its own over y
pub record MayRemove (G : Protection) (x : ℕ) (α : Letters) (y : ℕ) : Type 0 where
  pub unretired : has_retired G x ≡ false
  pub some : is_none α ≡ false
  pub apart : x ≢ y
  pub own : HasAllOver G x α y

-- x uses its right over a document
pub record MayUse (G : Protection) (x : ℕ) (r : Right) (y : ℕ) : Type 0 where
  pub unretired : has_retired G x ≡ false
  pub apart : x ≢ y
  pub own : HasOver G x r y
  pub document : kind_of G y ≡ Some kind.Document

-- x looks at itself, or at what it has take over
pub record MayLook (G : Protection) (x y : ℕ) : Type 0 where
  pub unretired : has_retired G x ≡ false
  pub over : (x ≡ y) ⊎ HasOver G x take y

-- x enrols a principal of a name that is free, over which it is to have some rights
pub record MayEnrol (G : Protection) (x : ℕ) (name : List ℕ) (α : Letters) : Type 0 where
  pub unretired : has_retired G x ≡ false
  pub some : is_none α ≡ false
  pub free : MayBeNamed G.names (Some name)

-- x is a principal, and retires
pub record MayRetire (G : Protection) (x : ℕ) : Type 0 where
  pub unretired : has_retired G x ≡ false
  pub principal : IsMember G.names x

pub record IsAllowedSo (G : Protection) (x : ℕ) : Type 0 where
  pub takes : (α : Letters) (y z : ℕ) → Allowed G x (command.Take α y z) ↔ MayTake G x α y z
  pub grants : (α : Letters) (y z : ℕ) → Allowed G x (command.Grant α y z) ↔ MayGrant G x α y z
  pub creates : (k : Kind) (α : Letters) → Allowed G x (command.Create k α) ↔ MayCreate G x α
  pub removes : (α : Letters) (y : ℕ) → Allowed G x (command.Remove α y) ↔ MayRemove G x α y
  pub reads : (y : ℕ) → Allowed G x (command.Read y) ↔ MayUse G x read y
  pub writes : (y : ℕ) (text : List ℕ) → Allowed G x (command.Write y text) ↔ MayUse G x write y
  pub looks : (y : ℕ) → Allowed G x (command.Look y) ↔ MayLook G x y
  pub enrols : (name : List ℕ) (α : Letters) → Allowed G x (command.Enrol name α) ↔ MayEnrol G x name α
  pub retires : Allowed G x command.Retire ↔ MayRetire G x

abbrev pub EachIsAllowedSo : Type 0
EachIsAllowedSo = (G : Protection) (x : ℕ) → IsAllowedSo G x

-- H has each right of G, and u has these over v; and: the same, but u does not have these over v
abbrev pub Gives : Protection → ℕ → Letters → ℕ → Protection → Type 0
Gives G u α v H = (t : Triple) → set.contains H.triples t ≡ (set.contains G.triples t || ((t.from == u) && ((t.to == v) && has α t.right)))

abbrev pub Loses : Protection → ℕ → Letters → ℕ → Protection → Type 0
Loses G u α v H = (t : Triple) → set.contains H.triples t ≡ (set.contains G.triples t && not ((t.from == u) && ((t.to == v) && has α t.right)))

-- who gets rights over whom, or loses them, by each command that x is allowed, and what the reply tells; a remove and a
-- write take no memory; a denial for missing rights names such as are missing; and who takes no rights is told so before
-- anything else, and who takes rights over itself before any right is looked for
pub record DoesSo (G : Protection) (x : ℕ) : Type 0 where
  pub takes : (α : Letters) (y z : ℕ) → Gives G x α y (after G x (command.Take α y z))
  pub grants : (α : Letters) (y z : ℕ) → Gives G z α y (after G x (command.Grant α y z))
  pub creates : (k : Kind) (α : Letters) → Gives G x α G.next (after G x (command.Create k α))
  pub enrols : (name : List ℕ) (α : Letters) → Gives G x α G.next (after G x (command.Enrol name α))
  pub removes : (α : Letters) (y : ℕ) → Loses G x α y (after G x (command.Remove α y))
  pub makes : (k : Kind) (α : Letters) → vertex (after G x (command.Create k α)) G.next ≡ Some (record { kind = k; text = [] })
  pub numbers : (k : Kind) (α : Letters) → allowed_reply G x (command.Create k α) ≡ reply.Created G.next
  pub tells : (y : ℕ) → allowed_reply G x (command.Read y) ≡ reply.Text (text_of G y)
  pub lists : (y : ℕ) → allowed_reply G x (command.Look y) ≡ reply.Edges (edges_of G y)
  pub removes_freely : (α : Letters) (y : ℕ) → takes_memory x (command.Remove α y) ≡ false
  pub writes_freely : (y : ℕ) (text : List ℕ) → takes_memory x (command.Write y text) ≡ false
  pub empty : (α : Letters) (y z : ℕ) → has_retired G x ≡ false → is_none α ≡ true → denial G x (command.Take α y z) ≡ Some cause.Empty
  pub itself : (α : Letters) (z : ℕ) → has_retired G x ≡ false → is_none α ≡ false → denial G x (command.Take α x z) ≡ Some cause.NotDistinct
  pub lacks : (c : Command) (β : Letters) (y z : ℕ) → denial G x c ≡ Some (cause.Missing β y z) → (r : Right) → has β r ≡ true → has (label G y z) r ≡ false

abbrev pub EachDoesSo : Type 0
EachDoesSo = (G : Protection) (x : ℕ) → DoesSo G x

-- a command may be full only at a limit, and at the limit it may; a create only for serials if these are used up. After
-- the last one, the next is the greatest number of 64 bits
pub record IsFullAtTheLimit (limits : Limits) (G : Protection) (x : ℕ) (c : Command) : Type 0 where
  pub serials : G.next ≤ last_serial → MayBeFull limits G x c which.Serials → ⊥
  pub slots : vertex_count G < limits.slots → MayBeFull limits G x c which.Slots → ⊥
  pub cells : edge_count G < limits.cells → MayBeFull limits G x c which.Cells → ⊥
  pub no_serial : is_create x c ≡ true → last_serial < G.next → MayBeFull limits G x c which.Serials
  pub no_slot : is_create x c ≡ true → G.next ≤ last_serial → vertex_count G ≡ limits.slots → MayBeFull limits G x c which.Slots
  pub no_cell : MakesEdge G x c → edge_count G ≡ limits.cells → MayBeFull limits G x c which.Cells
  pub first : is_create x c ≡ true → last_serial < G.next → (w : Which) → MayBeFull limits G x c w → w ≡ which.Serials
  pub last : last_serial + 2 ≡ 18446744073709551616

abbrev pub FullAtTheLimit : Type 0
FullAtTheLimit = (limits : Limits) (G : Protection) (x : ℕ) (c : Command) → IsFullAtTheLimit limits G x c
