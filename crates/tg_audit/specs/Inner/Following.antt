-- how far the logs of a seat have been followed along the history
use Rattle.std.specs.Prelude.{◌≡◌, ◌≢◌, ◌<◌, ◌≤◌, ℕ, List, [], ◌∷◌, ◌++◌, Option, Some, None, length, drop, nat_eq, slice_get, if◌then◌else◌}
use Rattle.tg_rights.specs.declared.limits.TheConstants.{SEATS}
use Rattle.tg_rights.specs.declared.outcome.Reply.{Reply}
use Rattle.tg_graph.specs.Promise.Protection.{Protection}
use Rattle.tg_graph.specs.Promise.Rules.{reply_of}
use Rattle.tg_vault.specs.declared.entry.Entry.{Entry}
use Rattle.tg_vault.specs.Promise.Contents.{Contents}
use Rattle.tg_audit.specs.declared.logs.Exchange.{Exchange}
use Rattle.tg_audit.specs.declared.logs.SeatLog.{SeatLog}
use Rattle.tg_audit.specs.declared.following.Position.{Position}
use Rattle.tg_audit.specs.declared.following.Progress.{Progress}
use Rattle.tg_audit.specs.declared.following.Progress.TheVariants as progress
use Rattle.tg_audit.specs.Promise.Settling.{DifferAt, exchanges_of, joined_logs}

-- an entry with its reply
abbrev pub told : Entry → Reply → Exchange
told e r = record { actor = e.actor; command = e.command; reply = r }

-- an entry with its reply, in the graph that the entries before it leave
abbrev pub told_in : Protection → Entry → Exchange
told_in G e = told e (reply_of G e.actor e.command e.outcome)

-- the logs of a seat, without this many exchanges of the first one
abbrev pub joined_from : ℕ → ℕ → List SeatLog → List Exchange
joined_from seat at [] = []
joined_from seat at (log ∷ logs) = (if nat_eq log.seat seat then drop at log.exchanges.items ++ joined_logs seat logs else joined_logs seat logs)

-- what is left of the logs of a seat
abbrev pub left_of : ℕ → List SeatLog → Position → List Exchange
left_of seat logs p = joined_from seat p.at (drop p.log logs)

-- what was followed is common to all entries of the seat and all its logs; this is left of either
pub record Beside (seat : ℕ) (logs : List SeatLog) (entries rest : List Exchange) (position : Position) (index : ℕ) : Type 0 where
  pub common : List Exchange
  pub entered : entries ≡ common ++ rest
  pub logged : joined_logs seat logs ≡ common ++ left_of seat logs position
  pub count : length common ≡ index

-- the entries and the logs of a seat have been followed up to the rest of the entries, or to where they differ
abbrev pub HasFollowed : ℕ → List SeatLog → List Exchange → List Exchange → Progress → Type 0
HasFollowed seat logs entries rest (progress.Beside position index) = Beside seat logs entries rest position index
HasFollowed seat logs entries rest (progress.Apart index) = DifferAt entries (joined_logs seat logs) index

-- the table has the progress of each seat at the end of the history
abbrev pub FollowsAll : Contents → List SeatLog → List Progress → Type 0
FollowsAll v logs table =
    (seat : ℕ) → seat < SEATS → (p : Progress) → slice_get table seat ≡ Some p → HasFollowed seat logs (exchanges_of seat v.opening v.history) [] p

-- how many exchanges were followed
abbrev pub followed : Progress → ℕ
followed (progress.Beside position index) = index
followed (progress.Apart index) = index

-- the least seat, of those that no entry has, whose logs are not empty; none if there is none
abbrev pub IsLeastAbove : List SeatLog → Option ℕ → Type 0
IsLeastAbove logs None = (k : ℕ) → SEATS ≤ k → joined_logs k logs ≡ []
IsLeastAbove logs (Some seat) = (SEATS ≤ seat) × (joined_logs seat logs ≢ []) × ((k : ℕ) → SEATS ≤ k → k < seat → joined_logs k logs ≡ [])
