-- what is written for a lookup: all vertices that could ever come to have rights over one, or over which one could
use Rattle.std.specs.Prelude.{◌≡◌, ℕ, List, Bool, true, false}
use Rattle.tg_rights.specs.Promise.Letters.{Letters, is_none}
use Rattle.tg_graph.specs.Promise.Protection.{Protection}
use Rattle.tg_graph.specs.declared.derivation.Goal.{Goal}
use Rattle.tg_sharing.specs.Promise.Lookups.{AreListed, AreMany, RunsOut, holder_goal, target_goal}
use Rattle.tg_sharing.specs.Promise.Prospects.{IsTooMuch}
use Rattle.tg_wire.specs.Promise.Faults.{fault_line}
use Rattle.tg_wire.specs.Promise.Unshared.{could_line, unshared_line}
use Rattle.tg_wire.specs.declared.fault.WireFault.TheVariants as wire
use Rattle.tg_wire.specs.declared.unshared.Unshared.TheVariants.{NoRights, NoSerial, TooMuch}
use Rattle.tgdoc.specs.Promise.Named.{Names, NamesNone}
use Rattle.tgdoc.specs.declared.question.End.{End}
use Rattle.tgdoc.specs.declared.question.End.TheVariants as end
use Rattle.tgdoc.specs.declared.question.Lookup.{Lookup}

-- the goal of each vertex v, where x is the one that is named: v is to have the rights over it, or it over v
abbrev pub goal_with : End → Letters → ℕ → ℕ → Goal
goal_with end.To α x = holder_goal α x
goal_with end.From α x = target_goal α x

-- it takes more than so much: more vertices have edges, or what the vertex could have takes more steps, or serials run out
abbrev pub TakesMore : End → Protection → ℕ → Type 0
TakesMore end.To G most = AreMany G most
TakesMore end.From G most = IsTooMuch G most

-- the answer to a lookup, and whether it counts as an `error` line
pub data LookedUp (G : Protection) (q : Lookup) (text : List ℕ) : Bool → Type 0 where
  nobody : NamesNone G q.vertex text → LookedUp G q text true
  no_rights : is_none q.rights ≡ true → text ≡ unshared_line NoRights → LookedUp G q text true
  too_much : TakesMore q.end G q.most → text ≡ unshared_line TooMuch → LookedUp G q text true
  no_serial : RunsOut G → text ≡ unshared_line NoSerial → LookedUp G q text false
  -- all vertices whose goals can be shared, and no other
  are_listed : (x : ℕ) (could : List (ℕ × Letters)) → Names G q.vertex x → AreListed G (goal_with q.end q.rights x) could → text ≡ could_line could → LookedUp G q text false
  -- no memory for the answer
  not_listed : text ≡ fault_line wire.OutOfMemory → LookedUp G q text true
