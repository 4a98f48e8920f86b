-- The terms of a command are consistent: they ask all that its effect takes for granted.
use Rattle.std.specs.Prelude.{◌≡◌, ℕ, true, false, List, [], ◌∷◌, Option, Some, None, ◌⊎◌, ◌==◌}
use Rattle.tg_rights.specs.declared.kind.Kind.{Kind}
use Rattle.tg_rights.specs.declared.kind.Kind.TheVariants as kind
use Rattle.tg_graph.specs.declared.rules.Need.{Need}
use Rattle.tg_graph.specs.Promise.Terms as effect
use Rattle.tg_graph.specs.Promise.Terms.{Does, Terms, need}
use Rattle.tg_graph.specs.Promise.Rules.{names_rights}
use Rattle.tg_graph.specs.Promise.Deciding.{LeadTo}
use Rattle.tg_graph.specs.Inner.Deciding.{AskSome, NeedsFollow, IsSubjectIfNamed}

-- a vertex that a command of x may work on: x, or one that the needs lead to
abbrev pub IsNear : ℕ → List Need → ℕ → Type 0
IsNear x ns v = (v ≡ x) ⊎ LeadTo ns v

-- the needs lead to the vertex that has to be of a kind
abbrev pub WantedNear : List Need → Option (ℕ × Kind) → Type 0
WantedNear ns None = Unit {0}
WantedNear ns (Some w) = LeadTo ns w.0

-- the terms ask all that the effect takes for granted
abbrev pub Covers : ℕ → Terms → Does → Type 0
Covers x t (effect.Joins from α to) = IsNear x t.needs from × LeadTo t.needs to × (t.names ≡ Some α) × (t.apart ≡ true → (from == to) ≡ false)
Covers x t (effect.Makes k α name) = (t.names ≡ Some α) × (t.name ≡ name) × IsSubjectIfNamed k name
Covers x t (effect.Drops α over) = (t.names ≡ Some α) × (t.needs ≡ need x α over ∷ [])
Covers x t (effect.Rewrites over text) = t.wants ≡ Some (over, kind.Document)
Covers x t (effect.Tells over) = LeadTo t.needs over
Covers x t (effect.Lists at) = IsNear x t.needs at
Covers x t effect.Retires = t.principal ≡ true
Covers x t (effect.Acts None) = Unit {0}
Covers x t (effect.Acts (Some agent)) = t.wants ≡ Some (agent, kind.Subject)

-- the terms of a command of x are consistent
pub record IsSound (x : ℕ) (t : Terms) : Type 0 where
  pub follows : NeedsFollow x t.needs
  pub some : names_rights t.names ≡ true → AskSome t.needs
  pub wants : WantedNear t.needs t.wants
  pub covers : Covers x t t.does
