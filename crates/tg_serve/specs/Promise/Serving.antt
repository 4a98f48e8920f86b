-- the configuration line of a server, and the lines of its own
use Rattle.std.specs.Prelude.{◌≡◌, ◌↔◌, ◌<◌, ◌≤◌, ◌*◌, ℕ, suc, Bool, List, [], ◌∷◌, ◌++◌, length, Option, None, Some, Result, Ok, Err, IfErr, IfOk, codes, decimal, false, true}
use Rattle.std.specs.Io.KnownBytes.{Appends}
use Rattle.tg_audit.specs.Promise.Settling.{IsPlace, SettledAs}
use Rattle.tg_audit.specs.declared.logs.SeatLog.{SeatLog}
use Rattle.tg_audit.specs.declared.logs.Settled.TheVariants as settled
use Rattle.tg_share.specs.Promise.Closing.{IsClosed}
use Rattle.tg_share.specs.Promise.Reached.{HasHeadline}
use Rattle.tg_share.specs.declared.closing.Closed.{Closed}
use Rattle.tg_share.specs.declared.closing.Closed.TheVariants as closed
use Rattle.tg_share.specs.declared.session.Ended.{Ended}
use Rattle.tg_vault.specs.Promise.Contents.{Contents}
use Rattle.tg_vault.specs.Promise.Rebase.{IsRebased}
use Rattle.tg_vault.specs.Promise.World.{IsLeastInUse}
use Rattle.tg_talk.specs.Promise.Devices.{Sends}
use Rattle.tg_serve.specs.declared.operating.Operating.{Operating}
use Rattle.tg_serve.specs.declared.serve.Unsettled.{Unsettled}
use Rattle.tg_serve.specs.declared.serve.Unsettled.TheVariants as unsettled

-- the line that names the address listened on
abbrev pub listening_line : List ℕ → List ℕ
listening_line address = codes "{\"listening\":\"" ++ address ++ codes "\"}\n"

-- the last line, if the logs agree with the history
abbrev pub agreed_line : List ℕ
agreed_line = codes "{\"settled\":\"agreed\"}\n"

-- the last line, if a log differs at this index of this seat
abbrev pub differs_line : ℕ → ℕ → List ℕ
differs_line seat index = codes "{\"index\":" ++ decimal index ++ codes ",\"seat\":" ++ decimal seat ++ codes ",\"settled\":\"differs\"}\n"

-- the last line, if an allocation or the start of a thread failed in a round
abbrev pub no_memory_line : List ℕ
no_memory_line = codes "{\"settled\":\"no memory\"}\n"

-- the last line, if an allocation failed between two rounds
abbrev pub out_of_memory_line : List ℕ
out_of_memory_line = codes "{\"error\":\"out of memory\"}\n"

-- the last line, if a server has not settled
abbrev pub end_line : Unsettled → List ℕ
end_line (unsettled.Differs seat index) = differs_line seat index
end_line unsettled.NoMemory = no_memory_line
end_line unsettled.OutOfMemory = out_of_memory_line
end_line unsettled.Seated = []

-- the last line
abbrev pub conclusion_line : Result Contents Unsettled → List ℕ
conclusion_line (Ok last) = agreed_line
conclusion_line (Err end) = end_line end

-- the line of a rebase: how many entries it dropped, and after which round
abbrev pub rebased_line : ℕ → ℕ → List ℕ
rebased_line dropped round = codes "{\"dropped\":" ++ decimal dropped ++ codes ",\"round\":" ++ decimal round ++ codes "}\n"

-- the lines of all rebases, by the vaults that were rebased, the latest first: each dropped that vault's history; the
-- first round is 1
abbrev pub rebased_lines : List Contents → List ℕ
rebased_lines [] = []
rebased_lines (v ∷ earlier) = rebased_lines earlier ++ rebased_line (length v.history) (suc (length earlier))

-- the vault that was closed, or why a round has not settled
abbrev pub found_of : {L : Type 0} → Closed L → Result Contents Unsettled
found_of (closed.Done (settled.Agreed vault) counted) = Ok vault
found_of (closed.Done (settled.Differs vault logs seat index) counted) = Err (unsettled.Differs seat index)
found_of (closed.Done (settled.NoMemory vault logs) counted) = Err unsettled.NoMemory
found_of (closed.NoRoom shared ended) = Err unsettled.NoMemory

-- what a round found: that of a vault that was closed with the sessions that ended, or that an allocation or the start
-- of a thread failed before
pub data IsFound (L : Type 0) (f : Result Contents Unsettled) : Type 0 where
  by_closing : (ended : List (Ended L)) (c : Closed L) → IsClosed ended c → f ≡ found_of c → IsFound L f
  by_refusal : f ≡ Err unsettled.NoMemory → IsFound L f

-- what is known of a vault on which a round agreed: it has the headline, and some logs are settled with its history as
-- agreed, which is so of any history
pub record HasAgreed (v : Contents) : Type 0 where
  pub logs : List SeatLog
  pub settled : SettledAs v logs (settled.Agreed v)
  pub headline : HasHeadline v

-- so has each of these
abbrev pub HaveAgreed : List Contents → Type 0
HaveAgreed [] = Unit {0}
HaveAgreed (v ∷ vs) = HasAgreed v × HaveAgreed vs

-- a rebase of the vault left another one
pub record HasRebased (v : Contents) : Type 0 where
  pub fresh : Contents
  pub rebased : IsRebased v fresh

-- so did one of each of these
abbrev pub HaveRebased : List Contents → Type 0
HaveRebased [] = Unit {0}
HaveRebased (v ∷ vs) = HasRebased v × HaveRebased vs

-- what is known if logs differ: some vault has the headline, and some logs differ from its history first at this index
-- of this seat
pub record HasDiffered (seat index : ℕ) : Type 0 where
  pub vault : Contents
  pub logs : List SeatLog
  pub place : IsPlace vault logs (Some (seat, index))
  pub headline : HasHeadline vault

-- what is known if a seat was in use between two rounds: that some vault has one in use, which is always so
pub record HasSeated : Type 0 where
  pub vault : Contents
  pub seat : ℕ
  pub used : IsLeastInUse vault.seats seat

-- what is known of the end of a server: nothing of memory, which may run out at any time
abbrev pub EndsServer : Unsettled → Type 0
EndsServer (unsettled.Differs seat index) = HasDiffered seat index
EndsServer unsettled.NoMemory = Unit {0}
EndsServer unsettled.OutOfMemory = Unit {0}
EndsServer unsettled.Seated = HasSeated

-- what a writer has got is still there, and these bytes behind it, or, if it failed, a prefix of them; none if it had
-- failed before
pub record SendsOn (old : Option (List ℕ)) (was : Bool) (new : Option (List ℕ)) (failed : Bool) (bytes : List ℕ) : Type 0 where
  pub behind : (start : Option (List ℕ)) (before : List ℕ) → Sends start old was before → Sends start new failed (before ++ bytes)

-- these full rounds and one more serve all connections, and this one has some if it is not the only one
pub record AreRounds (connections round full : ℕ) : Type 0 where
  pub enough : connections ≤ suc full * round
  pub needed : 0 < full → full * round < connections

-- a server that may wait for ever and use all memory, to which nobody attends
abbrev pub unbounded : Operating
unbounded = record { patience = None; memory = None; is_endless = false; is_attended = false; notifies = false; keeps_history = false }

-- the server ends once the connections are used up: it has an end, and nobody attends
pub record IsAlone (operating : Operating) : Type 0 where
  pub ends : operating.is_endless ≡ false
  pub unattended : operating.is_attended ≡ false

-- the connections also say how many rounds there are: the memory of a round, which would end it, has no bound
pub record IsCounted (operating : Operating) : Type 0 where
  pub memory : operating.memory ≡ None
  pub alone : IsAlone operating

-- these full rounds and one more can serve all connections, and there are fewer of them than connections
pub record AreEnough (connections round full : ℕ) : Type 0 where
  pub enough : connections ≤ suc full * round
  pub used : 0 < full → full < connections

-- what is written of how the rounds ended, and whether the server has settled: nothing, if its address was not written
pub record Concludes (found : Result Contents Unsettled) (is_announced settled : Bool) (old : Option (List ℕ)) (was : Bool) (new : Option (List ℕ)) (failed : Bool) : Type 0 where
  pub agreed : IfOk found (λ _. (settled ≡ true) ↔ ((is_announced ≡ true) × (failed ≡ false)))
  pub ended : IfErr found (λ _. settled ≡ false)
  pub told : is_announced ≡ true → SendsOn old was new failed (conclusion_line found)
  pub quiet : is_announced ≡ false → new ≡ old

-- there are vaults that have agreed, one for each round, and all but the last were rebased; the writer has not failed,
-- and has got the line of an address, one for each of these vaults but the last, by the length of its history, and the
-- line that all agrees, and nothing else. That they are those of the rounds is not said. Of a server that nobody ends there
-- are enough to serve all connections, and no more than these need if the memory of a round has no bound either.
pub record IsServed (operating : Operating) (connections round : ℕ) (old new : Option (List ℕ)) (failed : Bool) : Type 0 where
  pub unfailed : failed ≡ false
  pub address : List ℕ
  pub last : Contents
  pub rebased : List Contents
  pub agreed : HaveAgreed (last ∷ rebased)
  pub fresh : HaveRebased rebased
  pub rounds : IsCounted operating → 1 ≤ round → AreRounds connections round (length rebased)
  pub enough : IsAlone operating → 1 ≤ round → AreEnough connections round (length rebased)
  pub appended : Appends old new (listening_line address ++ (rebased_lines rebased ++ agreed_line))
