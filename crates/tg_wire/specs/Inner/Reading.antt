-- the value of a field, as code returns it
use Rattle.std.specs.Prelude.{Option, Result}
use Rattle.tg_wire.specs.declared.fault.WireFault.{WireFault}
use Rattle.tg_wire.specs.declared.fault.WireFault.TheVariants.{BadField}
use Rattle.tg_wire.specs.Promise.Reading.{or_else, Answers}

-- the value of a field, or BadField, unless memory ran out
abbrev pub AnswersField : {A : Type 0} → Result A WireFault → Option A → Type 0
AnswersField r o = Answers r (or_else BadField o)
