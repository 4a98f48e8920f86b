-- laws: verdicts and places are determined
use Rattle.std.specs.Prelude.{◌≡◌, ℕ, List, Option, None, length, sum_by}
use Rattle.tg_graph.specs.declared.derivation.Goal.{Goal}
use Rattle.tg_graph.specs.declared.derivation.Step.{Step}
use Rattle.tg_graph.specs.declared.derivation.Verdict.{Verdict}
use Rattle.tg_graph.specs.Promise.Protection.{Protection}
use Rattle.tg_vault.specs.Promise.Contents.{Contents}
use Rattle.tg_audit.specs.declared.logs.SeatLog.{SeatLog}
use Rattle.tg_audit.specs.declared.logs.Settled.{Settled}
use Rattle.tg_audit.specs.declared.logs.Settled.TheVariants as settled
use Rattle.tg_audit.specs.Promise.Settling.{IsPlace, SettledAs}
use Rattle.tg_audit.specs.Promise.Verdicts.{IsVerdict}

-- steps have exactly one verdict
abbrev pub ExactlyOneVerdict : Type 0
ExactlyOneVerdict =
    (G : Protection) (steps : List Step) (goal : Goal) → (v : Verdict) × IsVerdict G steps goal v × ((w : Verdict) → IsVerdict G steps goal w → w ≡ v)

-- there is exactly one place at which the logs first differ from the history, or none
abbrev pub ExactlyOnePlace : Type 0
ExactlyOnePlace =
    (v : Contents) (logs : List SeatLog) → (p : Option (ℕ × ℕ)) × IsPlace v logs p × ((q : Option (ℕ × ℕ)) → IsPlace v logs q → q ≡ p)

-- if each seat agrees, the history has as many entries as the logs have exchanges
abbrev pub AgreedCounts : Type 0
AgreedCounts = (v : Contents) (logs : List SeatLog) → IsPlace v logs None → length v.history ≡ sum_by (λ l. length l.exchanges.items) logs

-- the vault that is given back, and the logs: those that were passed in if all agree
abbrev pub vault_back : Settled → Contents
vault_back (settled.Agreed w) = w
vault_back (settled.Differs w back seat index) = w
vault_back (settled.NoMemory w back) = w

abbrev pub logs_back : List SeatLog → Settled → List SeatLog
logs_back logs (settled.Agreed w) = logs
logs_back logs (settled.Differs w back seat index) = back.items
logs_back logs (settled.NoMemory w back) = back.items

-- what is given back can be settled again, with the same result: the place at which it differs is the same
abbrev pub PlacesStay : Type 0
PlacesStay =
    (v : Contents) (logs : List SeatLog) (s : Settled) (p : Option (ℕ × ℕ)) → SettledAs v logs s → IsPlace v logs p → IsPlace (vault_back s) (logs_back logs s) p
