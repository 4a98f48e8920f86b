-- what a shared vault leaves when it is closed
use Rattle.std.specs.Prelude.{◌≡◌, ℕ, Bool, true, List, [], Option, None, length, map, sum_by}
use Rattle.tg_graph.specs.Promise.Protection.{Protection}
use Rattle.tg_vault.specs.Promise.Contents.{Contents}
use Rattle.tg_audit.specs.declared.logs.SeatLog.{SeatLog}
use Rattle.tg_audit.specs.declared.logs.Settled.{Settled}
use Rattle.tg_audit.specs.declared.logs.Settled.TheVariants as settled
use Rattle.tg_audit.specs.Promise.Settling.{GivesBack, HandsOn, SettledAs}
use Rattle.tg_share.specs.declared.session.Ended.{Ended}
use Rattle.tg_share.specs.declared.closing.Closed.{Closed}
use Rattle.tg_share.specs.declared.closing.Closed.TheVariants as closed
use Rattle.tg_share.specs.Promise.Reached.{HasHeadline}

-- the vault that is returned
abbrev pub vault_in : Settled → Contents
vault_in (settled.Agreed v) = v
vault_in (settled.Differs v logs seat index) = v
vault_in (settled.NoMemory v logs) = v

abbrev pub IsAgreed : Settled → Type 0
IsAgreed (settled.Agreed v) = Unit {0}
IsAgreed (settled.Differs v logs seat index) = ⊥
IsAgreed (settled.NoMemory v logs) = ⊥

abbrev pub logs_of : {L : Type 0} → List (Ended L) → List SeatLog
logs_of ended = map (λ e. e.log) ended

-- how many exchanges there are in the logs together
abbrev pub exchange_count : {L : Type 0} → List (Ended L) → ℕ
exchange_count ended = sum_by (λ e. length e.log.exchanges.items) ended

-- the vault's history is settled with the logs; if it agrees, or if all sessions were counted, it has as many entries
-- as the logs have exchanges; and the vault has the headline, for all the holds of the lock
pub record IsSettled {L : Type 0} (ended : List (Ended L)) (outcome : Settled) (all : Bool) : Type 0 where
  pub settled : SettledAs (vault_in outcome) (logs_of ended) outcome
  pub agreed : IsAgreed outcome → length (vault_in outcome).history ≡ exchange_count ended
  pub counted : all ≡ true → length (vault_in outcome).history ≡ exchange_count ended
  pub headline : HasHeadline (vault_in outcome)

abbrev pub IsClosed : {L : Type 0} → List (Ended L) → Closed L → Type 0
IsClosed ended (closed.Done settled counted) = IsSettled ended settled counted
IsClosed ended (closed.NoRoom shared back) = back.items ≡ ended

-- what is handed back beside it: the logs if they agree
abbrev pub HandsBack : {L : Type 0} → List (Ended L) → Closed L → List SeatLog → Type 0
HandsBack ended (closed.Done settled counted) logs = GivesBack (logs_of ended) settled logs
HandsBack ended (closed.NoRoom shared back) logs = logs ≡ []

-- and the graph that the history leaves, if they agree
abbrev pub HandsGraph : {L : Type 0} → Closed L → Option Protection → Type 0
HandsGraph (closed.Done settled counted) graph = HandsOn (vault_in settled) settled graph
HandsGraph (closed.NoRoom shared back) graph = graph ≡ None
