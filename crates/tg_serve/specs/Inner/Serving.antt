-- rounds that were served, an address that is told, and inputs that are taken or refused
use Rattle.std.specs.Prelude.{◌≡◌, ◌<◌, ◌≤◌, ℕ, Bool, List, [], ◌∷◌, length, Option}
use Rattle.std.specs.Io.KnownBytes.{Appends}
use Rattle.tg_vault.specs.Promise.Contents.{Contents}
use Rattle.tg_wire.specs.Promise.Faults.{fault_line}
use Rattle.tg_wire.specs.declared.fault.WireFault.TheVariants as wire
use Rattle.tg_talk.specs.Promise.Devices.{Sends}
use Rattle.tg_talk.specs.Promise.InputLines.{lines_of}
use Rattle.tg_talk.specs.Promise.Opening.{OpensVault, RefusesOpening}
use Rattle.tg_serve.specs.declared.operating.Operating.{Operating}
use Rattle.tg_serve.specs.Promise.Serving.{listening_line, rebased_lines, HaveAgreed, HaveRebased, AreRounds, IsAlone, IsCounted, AreEnough}

-- each vault has agreed and was rebased, and for each the line of a rebase that drops its history was sent; of a server
-- that nobody ends there are enough for the connections, and just as many as these need if they alone count
pub record HasRounds (operating : Operating) (connections round : ℕ) (old new : Option (List ℕ)) (failed : Bool) : Type 0 where
  pub rebased : List Contents
  pub agreed : HaveAgreed rebased
  pub fresh : HaveRebased rebased
  pub rounds : IsCounted operating → AreRounds connections round (length rebased)
  pub enough : IsAlone operating → AreEnough connections round (length rebased)
  pub sent : Sends old new failed (rebased_lines rebased)

-- the writer has got the line of an address
pub record Announces (old new : Option (List ℕ)) : Type 0 where
  pub address : List ℕ
  pub appended : Appends old new (listening_line address)

-- these lines begin with a configuration that opens this vault
pub record OpensInput (v : Contents) (lines : List (List ℕ)) : Type 0 where
  pub first : List ℕ
  pub others : List (List ℕ)
  pub are : lines ≡ first ∷ others
  pub short : length first ≤ 16384
  pub opens : OpensVault first v

-- no configuration is taken from these lines, and this text is written
pub data RefusesInput (text : List ℕ) : List (List ℕ) → Type 0 where
  -- no memory for the lines: none is taken
  no_buffer : {ls : List (List ℕ)} → text ≡ fault_line wire.OutOfMemory → RefusesInput text ls
  -- the reader failed before a line came
  stopped : {ls : List (List ℕ)} → text ≡ [] → RefusesInput text ls
  -- no line at all is read as an empty one
  no_line : RefusesOpening [] text → RefusesInput text []
  too_long : {l : List ℕ} {ls : List (List ℕ)} → 16384 < length l → text ≡ fault_line wire.TooLong → RefusesInput text (l ∷ ls)
  refused : {l : List ℕ} {ls : List (List ℕ)} → length l ≤ 16384 → RefusesOpening l text → RefusesInput text (l ∷ ls)

-- the same for the bytes of an input
abbrev pub OpensBytes : Contents → List ℕ → Type 0
OpensBytes v xs = OpensInput v (lines_of xs)

abbrev pub RefusesBytes : List ℕ → List ℕ → Type 0
RefusesBytes text xs = RefusesInput text (lines_of xs)
