-- the terms of each command: what its rule asks before it is allowed, and what the command then does
use Rattle.std.specs.Prelude.{ℕ, Bool, true, false, if◌then◌else◌, not, ◌&&◌, ◌==◌, List, [], ◌∷◌, Option, Some, None}
use Rattle.tg_rights.specs.Promise.Letters.{Letters, joined, read_alone, write_alone, take_alone, grant_alone}
use Rattle.tg_rights.specs.declared.kind.Kind.{Kind}
use Rattle.tg_rights.specs.declared.kind.Kind.TheVariants as kind
use Rattle.tg_rights.specs.declared.command.Command.{Command}
use Rattle.tg_rights.specs.declared.command.Command.TheVariants as command
use Rattle.tg_graph.specs.declared.rules.Need.{Need}

-- what an allowed command of x does
pub data Does : Type 0 where
  -- the edge from one vertex to another gains rights
  Joins : ℕ → Letters → ℕ → Does
  -- a vertex of a kind is made, over which x has rights; with a name it is a principal
  Makes : Kind → Letters → Option (List ℕ) → Does
  -- the edge from x to a vertex loses rights
  Drops : Letters → ℕ → Does
  -- a vertex gets a text
  Rewrites : ℕ → List ℕ → Does
  -- the reply is the text of a vertex
  Tells : ℕ → Does
  -- the reply is the edges of a vertex
  Lists : ℕ → Does
  -- x is a principal no longer
  Retires : Does
  -- the seat acts for this subject from then on, or for none
  Acts : Option ℕ → Does

pub record Terms : Type 0 where
  -- whether x may ask it even after it has retired
  pub for_retired : Bool
  -- the rights that it names, of which there have to be some
  pub names : Option Letters
  -- whether the vertices that have to be distinct are
  pub apart : Bool
  -- the rights that it needs, in order
  pub needs : List Need
  -- the vertex that has to be of a kind, and the kind
  pub wants : Option (ℕ × Kind)
  -- whether x has to be a principal
  pub principal : Bool
  -- the name that it gives to a new principal
  pub name : Option (List ℕ)
  pub does : Does

-- from has to have these rights over to
abbrev pub need : ℕ → Letters → ℕ → Need
need from rights to = record { from = from; rights = rights; to = to }

abbrev pub all_apart : ℕ → ℕ → ℕ → Bool
all_apart x y z = not (x == y) && not (x == z) && not (y == z)

-- the terms of a command for which nothing is asked
abbrev pub free : Does → Terms
free e = record { for_retired = false; names = None; apart = true; needs = []; wants = None; principal = false; name = None; does = e }

-- the terms of a command of x: one equation for each command
abbrev pub terms : ℕ → Command → Terms
terms x (command.Take α over from) = record (free (Joins x α over)) {
  names = Some α;
  apart = all_apart x over from;
  needs = need x take_alone from ∷ need from α over ∷ [];
}
terms x (command.Grant α over to) = record (free (Joins to α over)) {
  names = Some α;
  apart = all_apart x over to;
  needs = need x grant_alone to ∷ need x α over ∷ [];
}
terms x (command.Create k α) = record (free (Makes k α None)) { names = Some α }
terms x (command.Remove α over) = record (free (Drops α over)) { names = Some α; apart = not (x == over); needs = need x α over ∷ [] }
terms x (command.Read over) = record (free (Tells over)) {
  apart = not (x == over);
  needs = need x read_alone over ∷ [];
  wants = Some (over, kind.Document);
}
terms x (command.Write over text) = record (free (Rewrites over text)) {
  apart = not (x == over);
  needs = need x write_alone over ∷ [];
  wants = Some (over, kind.Document);
}
terms x (command.Look at) = record (free (Lists at)) { needs = (if at == x then [] else need x take_alone at ∷ []) }
terms x (command.Enrol name α) = record (free (Makes kind.Subject α (Some name))) { names = Some α; name = Some name }
terms x command.Retire = record (free Retires) { principal = true }
terms x (command.Assume agent) = record (free (Acts (Some agent))) {
  apart = not (x == agent);
  needs = need x (joined take_alone grant_alone) agent ∷ [];
  wants = Some (agent, kind.Subject);
}
terms x command.Leave = record (free (Acts None)) { for_retired = true }

-- the text that a command brings
abbrev pub text_in : Command → List ℕ
text_in (command.Write over text) = text
text_in _ = []

-- the name that a command gives to a new principal
abbrev pub name_in : Command → Option (List ℕ)
name_in (command.Enrol name α) = Some name
name_in _ = None
