-- Worked lines that are written.
use Rattle.std.proofs.Common.{refl}
use Rattle.tg_wire.specs.Promise.Answers.{answer_line, swept_line, verdict_line}
use Rattle.tg_wire.specs.Promise.Faults.{fault_line, open_fault_line}
use Rattle.tg_wire.specs.Promise.Replies.{reply_line}
use Rattle.tg_wire.specs.Promise.Unshared.{could_line, unshared_line}
use Rattle.tg_wire.specs.Promise.WorkedAnswers.{WorkedAnswers}
use Rattle.tg_wire.proofs.Literals.{numbers_on_literals}

pub worked : WorkedAnswers
unfolding numbers_on_literals reply_line answer_line swept_line verdict_line fault_line open_fault_line could_line unshared_line
worked = record {
  done = refl;
  created = refl;
  text = refl;
  edges = refl;
  missing = refl;
  not_document = refl;
  not_subject = refl;
  retired = refl;
  empty = refl;
  not_distinct = refl;
  not_principal = refl;
  name_taken = refl;
  crowded = refl;
  serials = refl;
  slots = refl;
  cells = refl;
  hello = refl;
  bye = refl;
  shaded = refl;
  not_shaded = refl;
  noted_idle = refl;
  noted_mark = refl;
  noted_sweep = refl;
  seat_no_seat = refl;
  seat_no_actor = refl;
  seat_bound = refl;
  seat_no_principal = refl;
  seat_busy = refl;
  ask_no_seat = refl;
  ask_no_actor = refl;
  ask_busy = refl;
  ask_out_of_memory = refl;
  swept = refl;
  shared = refl;
  no_actor = refl;
  step_denied = refl;
  step_full = refl;
  goal_missing = refl;
  line_not_json = refl;
  line_not_an_object = refl;
  line_unknown_op = refl;
  line_missing_field = refl;
  line_bad_field = refl;
  line_unknown_field = refl;
  line_line_too_long = refl;
  line_out_of_memory = refl;
  config_1 = refl;
  config_2 = refl;
  config_3 = refl;
  config_4 = refl;
  config_5 = refl;
  config_6 = refl;
  config_7 = refl;
  config_8 = refl;
  config_9 = refl;
  config_10 = refl;
  never = refl;
  no_serial = refl;
  no_vertex = refl;
  no_principal = refl;
  no_rights = refl;
  too_much = refl;
  could = refl;
}
