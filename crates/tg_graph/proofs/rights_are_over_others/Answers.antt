use Rattle.std.proofs.Common.{◌≡◌, ℕ, Bool, true, false, refl, ◌∙◌}
use Rattle.tg_rights.specs.Promise.Letters.{Right, has}
use Rattle.tg_graph.specs.Promise.Protection.{IsGraph, Protection, label}
use Rattle.tg_graph.proofs.LabelLemmas.{contains-label}
use Rattle.tg_graph.proofs.rights_are_over_others.Goals as goal

none_there : (G : Protection) → IsGraph G → (v : ℕ) (r : Right) → has (label G v v) r ≡ false
none_there G g v r = by (has (label G v v) r) refl where
  by : (b : Bool) → has (label G v v) r ≡ b → has (label G v v) r ≡ false
  by true there = absurd (g.distinct (record { from = v; right = r; to = v }) (contains-label G (record { from = v; right = r; to = v }) ∙ there) refl)
  by false free = free

pub returns : goal.returns
returns c = none_there
