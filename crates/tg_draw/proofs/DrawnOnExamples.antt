-- What is drawn, on examples.
use Rattle.std.proofs.Common.{refl}
use Rattle.std.specs.Fmt.{digits}
use Rattle.tg_draw.specs.Promise.Laws.{DrawnOnExamples}
use Rattle.tg_draw.specs.Promise.Words.{before_cells, before_slots, colour_word, held_word, kind_word, phase_word, rim, style}

pub drawn : DrawnOnExamples
unfolding digits before_cells before_slots colour_word held_word kind_word phase_word rim style
drawn = record {
  edge = refl;
  seat = refl;
  state = refl;
  subject = refl;
  document = refl;
  line_feed = refl;
  quote = refl;
  ampersand = refl;
}
