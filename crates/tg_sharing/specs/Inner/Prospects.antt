-- how what a vertex could come to have is gathered
use Rattle.std.specs.Prelude.{◌≡◌, ◌≢◌, ℕ, true}
use Rattle.tg_rights.specs.Promise.Letters.{Right}
use Rattle.tg_graph.specs.Promise.Protection.{Protection}
use Rattle.tg_sharing.specs.Inner.Marking.{is_spanned}
use Rattle.tg_graph.specs.Promise.EachCommand.{HasOver}
use Rattle.tg_sharing.specs.declared.marks.Marks.{Marks}

-- what a spanned vertex u has over y, the goal's own vertex has in W
abbrev pub IsGathered : Protection → Protection → Marks → ℕ → ℕ → Type 0
IsGathered G W m u y = y ≢ m.from → is_spanned m u ≡ true → (r : Right) → HasOver G u r y → HasOver W m.from r y
