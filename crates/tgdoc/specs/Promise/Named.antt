-- the vertices that words of the command line name
use Rattle.std.specs.Prelude.{◌≡◌, ℕ, List, None, Some}
use Rattle.tg_graph.specs.Promise.Protection.{IsVertex, Protection, named}
use Rattle.tg_wire.specs.Promise.Unshared.{unshared_line}
use Rattle.tg_wire.specs.declared.unshared.Unshared.TheVariants.{NoPrincipal, NoVertex}
use Rattle.tgdoc.specs.declared.question.VertexName.{VertexName}
use Rattle.tgdoc.specs.declared.question.VertexName.TheVariants.{Principal, Serial}

-- the vertex that a word names: by its serial, or by the name of the principal that it is
abbrev pub Names : Protection → VertexName → ℕ → Type 0
Names G (Serial n) x = (x ≡ n) × IsVertex G x
Names G (Principal name) x = (named G name ≡ Some x) × IsVertex G x

-- a word names no vertex, and this is the line that says so
pub data NamesNone (G : Protection) : VertexName → List ℕ → Type 0 where
  no_vertex : {n : ℕ} {text : List ℕ} → (IsVertex G n → ⊥) → text ≡ unshared_line (NoVertex n) → NamesNone G (Serial n) text
  no_principal : {name text : List ℕ} → named G name ≡ None → text ≡ unshared_line NoPrincipal → NamesNone G (Principal name) text
