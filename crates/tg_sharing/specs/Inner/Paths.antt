-- paths of takes
use Rattle.std.specs.Prelude.{◌≡◌, ℕ, true, List, [], ◌∷◌}
use Rattle.tg_rights.specs.Promise.Letters.{Letters, includes, take_alone}
use Rattle.tg_graph.specs.Promise.Protection.{Protection, label}

-- x has all these rights over y
abbrev pub Holds : Protection → ℕ → Letters → ℕ → Type 0
Holds G x α y = includes (label G x y) α ≡ true

-- takes lead from u over the later vertices, one after another
abbrev pub TakePath : Protection → ℕ → List ℕ → Type 0
TakePath G u [] = Unit {0}
TakePath G u (x ∷ xs) = Holds G u take_alone x × TakePath G x xs

-- where the path ends
abbrev pub path_end : ℕ → List ℕ → ℕ
path_end u [] = u
path_end u (x ∷ xs) = path_end x xs
