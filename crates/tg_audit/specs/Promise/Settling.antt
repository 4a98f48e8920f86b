-- what it means that the logs of callers say what the history says
use Rattle.std.specs.Prelude.{◌≡◌, ◌<◌, ℕ, List, [], ◌∷◌, ◌++◌, Option, Some, None, slice_get, take, nat_eq, if◌then◌else◌}
use Rattle.tg_graph.specs.Promise.Protection.{Protection}
use Rattle.tg_graph.specs.Promise.Rules.{next_graph, reply_of}
use Rattle.tg_vault.specs.declared.entry.Entry.{Entry}
use Rattle.tg_vault.specs.Promise.Contents.{Contents, graph_now}
use Rattle.tg_audit.specs.declared.logs.Exchange.{Exchange}
use Rattle.tg_audit.specs.declared.logs.SeatLog.{SeatLog}
use Rattle.tg_audit.specs.declared.logs.Settled.{Settled}
use Rattle.tg_audit.specs.declared.logs.Settled.TheVariants as settled

-- the command of the entry's actor, and the reply in the graph before it
abbrev pub exchange_at : Protection → Entry → Exchange
exchange_at G e = record { actor = e.actor; command = e.command; reply = reply_of G e.actor e.command e.outcome }

-- the exchanges of a seat's entries, in order
abbrev pub exchanges_of : ℕ → Protection → List Entry → List Exchange
exchanges_of seat G [] = []
exchanges_of seat G (e ∷ es) =
    (if nat_eq e.seat seat
    then exchange_at G e ∷ exchanges_of seat (next_graph G e.actor e.command e.outcome) es
    else exchanges_of seat (next_graph G e.actor e.command e.outcome) es)

-- the logs of a seat, joined in the order given
abbrev pub joined_logs : ℕ → List SeatLog → List Exchange
joined_logs seat [] = []
joined_logs seat (log ∷ logs) = (if nat_eq log.seat seat then log.exchanges.items ++ joined_logs seat logs else joined_logs seat logs)

-- the seat's entries are its logs
abbrev pub Agrees : Contents → List SeatLog → ℕ → Type 0
Agrees v logs seat = exchanges_of seat v.opening v.history ≡ joined_logs seat logs

-- the lists are the same before the index, and not there: if one is longer, that is the shorter one's length
abbrev pub DifferAt : List Exchange → List Exchange → ℕ → Type 0
DifferAt xs ys index = (take index xs ≡ take index ys) × (slice_get xs index ≡ slice_get ys index → ⊥)

-- the least seat that does not agree, and the least index in it
pub record IsFirstDifference (v : Contents) (logs : List SeatLog) (seat index : ℕ) : Type 0 where
  pub before : (k : ℕ) → k < seat → Agrees v logs k
  pub here : DifferAt (exchanges_of seat v.opening v.history) (joined_logs seat logs) index

-- the place, a seat and an index, at which the logs first differ from the history; none if each seat agrees
abbrev pub IsPlace : Contents → List SeatLog → Option (ℕ × ℕ) → Type 0
IsPlace v logs None = (seat : ℕ) → Agrees v logs seat
IsPlace v logs (Some p) = IsFirstDifference v logs p.0 p.1

-- this is the result of settling the vault's history and the logs; vault and logs are returned as they were
abbrev pub SettledAs : Contents → List SeatLog → Settled → Type 0
SettledAs v logs (settled.Agreed w) = (w ≡ v) × IsPlace v logs None
SettledAs v logs (settled.Differs w back seat index) = (w ≡ v) × (back.items ≡ logs) × IsPlace v logs (Some (seat, index))
SettledAs v logs (settled.NoMemory w back) = (w ≡ v) × (back.items ≡ logs)

-- what is given back beside it: the logs if they agree
abbrev pub GivesBack : List SeatLog → Settled → List SeatLog → Type 0
GivesBack logs (settled.Agreed w) back = back ≡ logs
GivesBack logs (settled.Differs w others seat index) back = back ≡ []
GivesBack logs (settled.NoMemory w others) back = back ≡ []

-- what is handed on: the graph that the history leaves, if the logs agree
abbrev pub HandsOn : Contents → Settled → Option Protection → Type 0
HandsOn v (settled.Agreed w) graph = graph ≡ Some (graph_now v)
HandsOn v (settled.Differs w others seat index) graph = graph ≡ None
HandsOn v (settled.NoMemory w others) graph = graph ≡ None
