-- The configuration line.
use Rattle.std.proofs.Common.{ℕ, List, [], Err, refl}
use Rattle.tg_graph.specs.declared.config.Config.{Config}
use Rattle.tg_wire.specs.Promise.Configs.{opening_of}
use Rattle.tg_wire.specs.Promise.Lines.{config_of}
use Rattle.tg_wire.specs.Promise.Reading as reading
use Rattle.tg_wire.specs.Promise.Faults.{fault_line}
use Rattle.tg_wire.specs.declared.fault.WireFault.{WireFault}
use Rattle.tg_wire.specs.declared.fault.WireFault.TheVariants as wire
use Rattle.tg_wire.proofs.WorkedLinesLemmas.{worked}
use Rattle.tg_talk.specs.Promise.Opening.{RefusesOpening, misread, not_read}

-- a fault of reading refuses the line
pub refuses_fault : (line : List ℕ) (f : WireFault) → reading.AnswersBy {V = Config} opening_of (Err f) (config_of line) → RefusesOpening line (fault_line f)
refuses_fault line wire.NotJson h = misread wire.NotJson h refl
refuses_fault line wire.NotObject h = misread wire.NotObject h refl
refuses_fault line wire.NoOp h = misread wire.NoOp h refl
refuses_fault line wire.MissingField h = misread wire.MissingField h refl
refuses_fault line wire.BadField h = misread wire.BadField h refl
refuses_fault line wire.UnknownField h = misread wire.UnknownField h refl
refuses_fault line wire.TooLong h = misread wire.TooLong h refl
refuses_fault line wire.OutOfMemory h = not_read refl

-- an empty line is not JSON
pub empty_line : RefusesOpening [] (fault_line wire.NotJson)
empty_line = misread wire.NotJson worked.no_line refl
