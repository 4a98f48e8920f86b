-- how a run or a talk ends
use Rattle.std.specs.Prelude.{◌≡◌, Bool, true, false, Option, Some, None, ◌⊎◌}
use Rattle.tg_talk.specs.declared.fault.TalkFault.{TalkFault}
use Rattle.tg_talk.specs.declared.fault.TalkFault.TheVariants as talk

-- it ended by this fault, or the writer failed at its last line
abbrev pub IsFault : TalkFault → Option TalkFault → Type 0
IsFault f ended = (ended ≡ Some f) ⊎ (ended ≡ Some talk.Writing)

-- it ended without a fault, or the writer failed at its last line
abbrev pub EndsThere : Option TalkFault → Type 0
EndsThere ended = (ended ≡ None) ⊎ (ended ≡ Some talk.Writing)

-- the fault of an ending that would have this one: this one, or that the writer failed
abbrev pub EndsOnce : Option TalkFault → Bool → Option TalkFault → Type 0
EndsOnce f true told = told ≡ Some talk.Writing
EndsOnce f false told = told ≡ f
