use Rattle.std.proofs.Common.{◌≡◌, Bool, true, false, sym, ap₂, ◌∙◌}
use Rattle.tg_collect.specs.declared.note.Note.{Note}
use Rattle.tg_collect.specs.declared.note.Phase.{Phase}
use Rattle.tg_collect.specs.declared.note.Phase.TheVariants.{Idle, Mark, Sweep}
use Rattle.tg_wire.specs.Promise.Faults.{line_text}
use Rattle.tg_wire.specs.Promise.Answers.{noted_data}
use Rattle.tg_wire.proofs.Literals.{numbers_on_literals}
use Rattle.tg_wire.proofs.write.put_note.Goals as goal

-- the line of a note is that of what it has
of_note : (note : Note) (ended : Bool) (phase : Phase) → note.ended ≡ ended → note.phase ≡ phase
    → line_text (noted_data (record { freed = note.freed; phase = phase; ended = ended })) ≡ line_text (noted_data note)
of_note note ended phase e p = ap₂ (λ b at. line_text (noted_data (record { freed = note.freed; phase = at; ended = b }))) (sym e) (sym p)

pub returns-in-false-Idle : goal.returns-in-false-Idle
unfolding numbers_on_literals
returns-in-false-Idle c = c.put_led_number-in-false-Idle.ensures ∙ (of_note c.args.note false Idle c.in-false-Idle.is-0 c.in-false-Idle.is-1)

pub returns-in-false-Mark : goal.returns-in-false-Mark
unfolding numbers_on_literals
returns-in-false-Mark c = c.put_led_number-in-false-Mark.ensures ∙ (of_note c.args.note false Mark c.in-false-Mark.is-0 c.in-false-Mark.is-1)

pub returns-in-false-Sweep : goal.returns-in-false-Sweep
unfolding numbers_on_literals
returns-in-false-Sweep c = c.put_led_number-in-false-Sweep.ensures ∙ (of_note c.args.note false Sweep c.in-false-Sweep.is-0 c.in-false-Sweep.is-1)

pub returns-in-true-Idle : goal.returns-in-true-Idle
unfolding numbers_on_literals
returns-in-true-Idle c = c.put_led_number.ensures ∙ (of_note c.args.note true Idle c.in-true-Idle.is-0 c.in-true-Idle.is-1)

pub returns-in-true-Mark : goal.returns-in-true-Mark
unfolding numbers_on_literals
returns-in-true-Mark c = c.put_led_number-in-true-Mark.ensures ∙ (of_note c.args.note true Mark c.in-true-Mark.is-0 c.in-true-Mark.is-1)

pub returns-in-true-Sweep : goal.returns-in-true-Sweep
unfolding numbers_on_literals
returns-in-true-Sweep c = c.put_led_number-in-true-Sweep.ensures ∙ (of_note c.args.note true Sweep c.in-true-Sweep.is-0 c.in-true-Sweep.is-1)
