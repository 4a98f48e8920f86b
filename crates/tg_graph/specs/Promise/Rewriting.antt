-- the four rules of the take-grant model alone do all that changes who has rights over whom
use Rattle.std.specs.Prelude.{◌≡◌, ℕ, false, filter_map, List, Option, Some, None}
use Rattle.std.specs.Option.{option_map}
use Rattle.tg_rights.specs.declared.kind.Kind.TheVariants as kind
use Rattle.tg_rights.specs.declared.command.Command.{Command}
use Rattle.tg_rights.specs.declared.command.Command.TheVariants as command
use Rattle.tg_graph.specs.declared.derivation.Step.{Step}
use Rattle.tg_graph.specs.Promise.Protection.{Protection, has_retired, kind_of}
use Rattle.tg_graph.specs.Promise.Derivations.{Derives}

-- the command by one of the four rules that changes edges as this one does, if this one changes any: an enrol makes a
-- subject, as a create does
abbrev pub rewriting : Command → Option Command
rewriting (command.Take α over from) = Some (command.Take α over from)
rewriting (command.Grant α over to) = Some (command.Grant α over to)
rewriting (command.Create k α) = Some (command.Create k α)
rewriting (command.Remove α over) = Some (command.Remove α over)
rewriting (command.Read over) = None
rewriting (command.Write over text) = None
rewriting (command.Look at) = None
rewriting (command.Enrol name α) = Some (command.Create kind.Subject α)
rewriting command.Retire = None
rewriting (command.Assume agent) = None
rewriting command.Leave = None

-- the step of the same actor by one of the four rules, if there is one
abbrev pub rewriting_step : Step → Option Step
rewriting_step s = option_map (λ c. record { actor = s.actor; command = c }) (rewriting s.command)

-- the steps of a list that change edges, by the four rules
abbrev pub rewriting_steps : List Step → List Step
rewriting_steps steps = filter_map rewriting_step steps

-- H has the kinds, the edges and the next serial of G, and in H nobody has retired
pub record HasRightsOf (H G : Protection) : Type 0 where
  pub kinds : (v : ℕ) → kind_of H v ≡ kind_of G v
  pub next : H.next ≡ G.next
  pub triples : H.triples ≡ G.triples
  pub unretired : (v : ℕ) → has_retired H v ≡ false

-- what steps of all kinds do to the edges of one graph, those of the four rules among them do to the other's
abbrev pub DerivationsCarryOver : Type 0
DerivationsCarryOver =
    (G K H : Protection) (steps : List Step) → HasRightsOf H G → Derives G steps K →
    (reached : Protection) × Derives H (rewriting_steps steps) reached × HasRightsOf reached K
