-- spans and bridges: from where rights can come to a vertex
use Rattle.std.specs.Prelude.{◌≡◌, ℕ, Bool, true, false, ◌⊎◌}
use Rattle.tg_rights.specs.Promise.Letters.{Right, take, grant}
use Rattle.tg_graph.specs.Promise.EachCommand.{HasOver}
use Rattle.tg_graph.specs.Promise.Protection.{Protection, IsSubject, has_retired}

-- a subject that has not retired, and so may act
abbrev pub IsActor : Protection → ℕ → Type 0
IsActor G v = IsSubject G v × (has_retired G v ≡ false)

-- Two sets of vertices, closed for one vertex `from` to which rights are to come. An actor in either set is one that can
-- pass rights on to it. Spanned are those from which such an actor can take, along a terminal span. Bridged are those
-- from which a terminal span, read backwards, leads to such an actor, or to where a bridge or the initial span begins.
pub record AreClosed (G : Protection) (from : ℕ) (spanned bridged : ℕ → Bool) : Type 0 where
  -- the goal's own vertex, if it may act, and who may grant to it
  pub own : IsActor G from → bridged from ≡ true
  pub initial : (u : ℕ) → HasOver G u grant from → bridged u ≡ true
  -- terminal spans are closed under taking, and a bridge goes on from their ends by one grant, in either direction
  pub taken : (u v : ℕ) → spanned u ≡ true → HasOver G u take v → spanned v ≡ true
  pub granting : (u v : ℕ) → spanned u ≡ true → HasOver G u grant v → bridged v ≡ true
  pub granted : (u v : ℕ) → HasOver G u grant v → spanned v ≡ true → bridged u ≡ true
  pub reaching : (u v : ℕ) → HasOver G u take v → bridged v ≡ true → bridged u ≡ true
  -- an actor on a bridge is spanned by itself, and the other way round
  pub spans : (v : ℕ) → IsActor G v → bridged v ≡ true → spanned v ≡ true
  pub bridges : (v : ℕ) → IsActor G v → spanned v ≡ true → bridged v ≡ true

-- neither the vertex itself nor one that is spanned has the right
abbrev pub IsWithheld : Protection → ℕ → (ℕ → Bool) → Right → ℕ → Type 0
IsWithheld G from spanned r to = (u : ℕ) → (u ≡ from) ⊎ (spanned u ≡ true) → HasOver G u r to → ⊥
