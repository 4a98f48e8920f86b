-- derivations that grow, and what they keep
use Rattle.std.specs.Prelude.{◌≡◌, ◌≤◌, ◌<◌, ◌⊎◌, ℕ}
use Rattle.tg_rights.specs.Promise.Letters.{Letters, Right, take_alone, grant_alone, joined}
use Rattle.tg_rights.specs.declared.kind.Kind.{Kind}
use Rattle.tg_rights.specs.declared.kind.Kind.TheVariants as kind
use Rattle.tg_graph.specs.Promise.Derivations.{Derives}
use Rattle.tg_graph.specs.Promise.Protection.{Protection}
use Rattle.tg_sharing.specs.Inner.Paths.{Holds}
use Rattle.tg_graph.specs.Promise.EachCommand.{HasOver}
use Rattle.tg_sharing.specs.Promise.Spans.{IsActor}
use Rattle.tg_sharing.specs.declared.builder.Derivation.{Derivation}

-- x can take from y, if only because it is y
abbrev pub TakesFrom : Protection → ℕ → ℕ → Type 0
TakesFrom G x y = (x ≡ y) ⊎ Holds G x take_alone y

-- x can give to y, if only because it is y
abbrev pub Gives : Protection → ℕ → ℕ → Type 0
Gives G x y = (x ≡ y) ⊎ Holds G x grant_alone y

-- H has all edges and actors that G has
pub record KeepsAll (G H : Protection) : Type 0 where
  pub rights : (x : ℕ) (r : Right) (y : ℕ) → HasOver G x r y → HasOver H x r y
  pub actors : (v : ℕ) → IsActor G v → IsActor H v
  pub next : G.next ≤ H.next

-- further steps, which take nothing away
pub record Continues (d e : Derivation) : Type 0 where
  pub keeps : KeepsAll d.graph e.graph
  pub derived : (G : Protection) → Derives G d.steps.items d.graph → Derives G e.steps.items e.graph

abbrev pub take_and_grant : Letters
take_and_grant = joined take_alone grant_alone

-- the actor made this vertex, with take and grant over it
pub record Makes (d e : Derivation) (x : ℕ) (k : Kind) (made : ℕ) : Type 0 where
  pub fresh : made ≡ d.graph.next
  pub low : made < e.graph.next
  pub held : Holds e.graph x take_and_grant made
  pub actor : k ≡ kind.Subject → IsActor e.graph made
