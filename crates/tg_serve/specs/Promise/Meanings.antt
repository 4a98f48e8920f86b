-- the server in other words
use Rattle.std.specs.Prelude.{◌≡◌, ◌<◌, ◌≤◌, ℕ, Bool, true, List, ◌∷◌, Option}
use Rattle.tg_graph.specs.Promise.Protection.{is_active, label}
use Rattle.tg_audit.specs.Promise.Settling.{Agrees}
use Rattle.tg_audit.specs.declared.logs.SeatLog.{SeatLog}
use Rattle.tg_vault.specs.Promise.Contents.{Contents, graph_now}
use Rattle.tg_serve.specs.declared.operating.Operating.{Operating}
use Rattle.tg_serve.specs.declared.serve.Unsettled.TheVariants as unsettled
use Rattle.tg_serve.specs.Promise.Serving.{AreEnough, AreRounds, EndsServer, IsServed}

-- ten connections in rounds of three: three full rounds and one more, or at most nine if a round may end early; and a
-- server ends as differing only if some logs do not agree with a history; none has served whose writer failed; and
-- between two rounds no principal loses a right
pub record ServersMean : Type 0 where
  pub rounds : (full : ℕ) → AreRounds 10 3 full → full ≡ 3
  pub enough : (full : ℕ) → AreEnough 10 3 full → (3 ≤ full) × (full < 10)
  pub differs : (seat index : ℕ) → EndsServer (unsettled.Differs seat index) → (v : Contents) × (logs : List SeatLog) × (Agrees v logs seat → ⊥)
  pub unfailed : (operating : Operating) (connections round : ℕ) (old new : Option (List ℕ)) → IsServed operating connections round old new true → ⊥
  pub rights : (operating : Operating) (connections round : ℕ) (old new : Option (List ℕ)) (failed : Bool) (served : IsServed operating connections round old new failed) (v : Contents) (vs : List Contents) →
      served.rebased ≡ v ∷ vs → (w : Contents) × ((x y : ℕ) → is_active (graph_now v) x ≡ true → label (graph_now v) x y ≡ label w.opening x y)
