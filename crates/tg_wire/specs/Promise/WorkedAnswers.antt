-- what is written, on examples: a line for each reply, answer, verdict, fault and word
use Rattle.std.specs.Prelude.{◌≡◌, [], ◌∷◌, Some, None, false, codes}
use Rattle.tg_rights.specs.Promise.Letters.{joined, none, read_alone, write_alone, take_alone, grant_alone}
use Rattle.tg_rights.specs.declared.command.Rule.TheVariants as rule
use Rattle.tg_rights.specs.declared.outcome.Cause.TheVariants as cause
use Rattle.tg_rights.specs.declared.outcome.Which.TheVariants as which
use Rattle.tg_rights.specs.declared.outcome.Reply.TheVariants as reply
use Rattle.tg_graph.specs.declared.config.OpenFault.TheVariants as opened
use Rattle.tg_graph.specs.declared.derivation.Verdict.TheVariants as verdict
use Rattle.tg_collect.specs.declared.note.Phase.TheVariants as phase
use Rattle.tg_vault.specs.declared.event.SeatFault.TheVariants as seat
use Rattle.tg_vault.specs.declared.event.AskFault.TheVariants as ask
use Rattle.tg_vault.specs.declared.event.Answer.TheVariants as answer
use Rattle.tg_wire.specs.Promise.Answers.{answer_line, swept_line, verdict_line}
use Rattle.tg_wire.specs.Promise.Faults.{fault_line, open_fault_line}
use Rattle.tg_wire.specs.Promise.Replies.{reply_line}
use Rattle.tg_wire.specs.Promise.Unshared.{could_line, unshared_line}
use Rattle.tg_wire.specs.declared.fault.WireFault.TheVariants as fault
use Rattle.tg_wire.specs.declared.unshared.Unshared.TheVariants.{Never, NoPrincipal, NoRights, NoSerial, NoVertex, TooMuch}

pub record WorkedAnswers : Type 0 where
  pub done : reply_line reply.Done ≡ codes "{\"ok\":\"done\"}\n"
  pub created : reply_line (reply.Created 3) ≡ codes "{\"ok\":\"created\",\"vertex\":3}\n"
  pub text : reply_line (reply.Text (codes "hi")) ≡ codes "{\"ok\":\"text\",\"text\":\"hi\"}\n"
  pub edges : reply_line (reply.Edges ((2, joined take_alone grant_alone) ∷ (3, joined read_alone write_alone) ∷ [])) ≡ codes "{\"edges\":[[2,\"tg\"],[3,\"rw\"]],\"ok\":\"edges\"}\n"
  pub missing : reply_line (reply.Denied rule.Take (cause.Missing write_alone 2 3)) ≡ codes "{\"denied\":\"take\",\"from\":2,\"missing\":\"w\",\"to\":3}\n"
  pub not_document : reply_line (reply.Denied rule.Write (cause.NotDocument 2)) ≡ codes "{\"cause\":\"not document\",\"denied\":\"write\",\"vertex\":2}\n"
  pub not_subject : reply_line (reply.Denied rule.Assume (cause.NotSubject 4)) ≡ codes "{\"cause\":\"not subject\",\"denied\":\"assume\",\"vertex\":4}\n"
  pub retired : reply_line (reply.Denied rule.Read cause.Retired) ≡ codes "{\"cause\":\"retired\",\"denied\":\"read\"}\n"
  pub empty : reply_line (reply.Denied rule.Create cause.Empty) ≡ codes "{\"cause\":\"empty\",\"denied\":\"create\"}\n"
  pub not_distinct : reply_line (reply.Denied rule.Grant cause.NotDistinct) ≡ codes "{\"cause\":\"not distinct\",\"denied\":\"grant\"}\n"
  pub not_principal : reply_line (reply.Denied rule.Retire cause.NotPrincipal) ≡ codes "{\"cause\":\"not principal\",\"denied\":\"retire\"}\n"
  pub name_taken : reply_line (reply.Denied rule.Enrol cause.NameTaken) ≡ codes "{\"cause\":\"name taken\",\"denied\":\"enrol\"}\n"
  pub crowded : reply_line (reply.Denied rule.Enrol cause.Crowded) ≡ codes "{\"cause\":\"crowded\",\"denied\":\"enrol\"}\n"
  pub serials : reply_line (reply.Full which.Serials) ≡ codes "{\"full\":\"serials\"}\n"
  pub slots : reply_line (reply.Full which.Slots) ≡ codes "{\"full\":\"slots\"}\n"
  pub cells : reply_line (reply.Full which.Cells) ≡ codes "{\"full\":\"cells\"}\n"
  pub hello : answer_line (answer.Hello 1) ≡ codes "{\"ok\":\"hello\",\"vertex\":1}\n"
  pub bye : answer_line answer.Bye ≡ codes "{\"ok\":\"bye\"}\n"
  pub shaded : answer_line (answer.Shaded (Some 3)) ≡ codes "{\"shaded\":3}\n"
  pub not_shaded : answer_line (answer.Shaded None) ≡ codes "{\"shaded\":null}\n"
  pub noted_idle : answer_line (answer.Noted (record { phase = phase.Idle; freed = 1; ended = false })) ≡ codes "{\"ended\":false,\"freed\":1,\"phase\":\"idle\"}\n"
  pub noted_mark : answer_line (answer.Noted (record { phase = phase.Mark; freed = 1; ended = false })) ≡ codes "{\"ended\":false,\"freed\":1,\"phase\":\"mark\"}\n"
  pub noted_sweep : answer_line (answer.Noted (record { phase = phase.Sweep; freed = 1; ended = false })) ≡ codes "{\"ended\":false,\"freed\":1,\"phase\":\"sweep\"}\n"
  pub seat_no_seat : answer_line (answer.Seat seat.NoSeat) ≡ codes "{\"error\":\"no seat\"}\n"
  pub seat_no_actor : answer_line (answer.Seat seat.NoActor) ≡ codes "{\"error\":\"no actor\"}\n"
  pub seat_bound : answer_line (answer.Seat seat.Bound) ≡ codes "{\"error\":\"bound\"}\n"
  pub seat_no_principal : answer_line (answer.Seat seat.NoPrincipal) ≡ codes "{\"error\":\"no principal\"}\n"
  pub seat_busy : answer_line (answer.Seat seat.Busy) ≡ codes "{\"error\":\"busy\"}\n"
  pub ask_no_seat : answer_line (answer.Ask ask.NoSeat) ≡ codes "{\"error\":\"no seat\"}\n"
  pub ask_no_actor : answer_line (answer.Ask ask.NoActor) ≡ codes "{\"error\":\"no actor\"}\n"
  pub ask_busy : answer_line (answer.Ask ask.Busy) ≡ codes "{\"error\":\"busy\"}\n"
  pub ask_out_of_memory : answer_line (answer.Ask ask.OutOfMemory) ≡ codes "{\"error\":\"out of memory\"}\n"
  pub swept : swept_line (record { freed = 1; steps = 10 }) ≡ codes "{\"freed\":1,\"steps\":10}\n"
  pub shared : verdict_line verdict.Shared ≡ codes "{\"verdict\":\"shared\"}\n"
  pub no_actor : verdict_line (verdict.ActorNotSubject 5) ≡ codes "{\"step\":5,\"verdict\":\"actor not subject\"}\n"
  pub step_denied : verdict_line (verdict.StepDenied 4 rule.Take (cause.Missing write_alone 2 3)) ≡ codes "{\"denied\":\"take\",\"from\":2,\"missing\":\"w\",\"step\":4,\"to\":3,\"verdict\":\"step denied\"}\n"
  pub step_full : verdict_line (verdict.StepFull 6) ≡ codes "{\"step\":6,\"verdict\":\"step full\"}\n"
  pub goal_missing : verdict_line (verdict.GoalMissing read_alone) ≡ codes "{\"missing\":\"r\",\"verdict\":\"goal missing\"}\n"
  pub line_not_json : fault_line fault.NotJson ≡ codes "{\"error\":\"not json\"}\n"
  pub line_not_an_object : fault_line fault.NotObject ≡ codes "{\"error\":\"not an object\"}\n"
  pub line_unknown_op : fault_line fault.NoOp ≡ codes "{\"error\":\"unknown op\"}\n"
  pub line_missing_field : fault_line fault.MissingField ≡ codes "{\"error\":\"missing field\"}\n"
  pub line_bad_field : fault_line fault.BadField ≡ codes "{\"error\":\"bad field\"}\n"
  pub line_unknown_field : fault_line fault.UnknownField ≡ codes "{\"error\":\"unknown field\"}\n"
  pub line_line_too_long : fault_line fault.TooLong ≡ codes "{\"error\":\"line too long\"}\n"
  pub line_out_of_memory : fault_line fault.OutOfMemory ≡ codes "{\"error\":\"out of memory\"}\n"
  pub config_1 : open_fault_line opened.Principals ≡ codes "{\"error\":\"config\",\"fault\":1}\n"
  pub config_2 : open_fault_line opened.Name ≡ codes "{\"error\":\"config\",\"fault\":2}\n"
  pub config_3 : open_fault_line opened.EdgeEnd ≡ codes "{\"error\":\"config\",\"fault\":3}\n"
  pub config_4 : open_fault_line opened.SelfEdge ≡ codes "{\"error\":\"config\",\"fault\":4}\n"
  pub config_5 : open_fault_line opened.EmptyLabel ≡ codes "{\"error\":\"config\",\"fault\":5}\n"
  pub config_6 : open_fault_line opened.PairTwice ≡ codes "{\"error\":\"config\",\"fault\":6}\n"
  pub config_7 : open_fault_line opened.NextSmall ≡ codes "{\"error\":\"config\",\"fault\":7}\n"
  pub config_8 : open_fault_line opened.FewSlots ≡ codes "{\"error\":\"config\",\"fault\":8}\n"
  pub config_9 : open_fault_line opened.FewCells ≡ codes "{\"error\":\"config\",\"fault\":9}\n"
  pub config_10 : open_fault_line opened.Limit ≡ codes "{\"error\":\"config\",\"fault\":10}\n"
  pub never : unshared_line Never ≡ codes "{\"verdict\":\"never\"}\n"
  pub no_serial : unshared_line NoSerial ≡ codes "{\"verdict\":\"no serial\"}\n"
  pub no_vertex : unshared_line (NoVertex 9) ≡ codes "{\"error\":\"no vertex\",\"vertex\":9}\n"
  pub no_principal : unshared_line NoPrincipal ≡ codes "{\"error\":\"no principal\"}\n"
  pub no_rights : unshared_line NoRights ≡ codes "{\"error\":\"no rights\"}\n"
  pub too_much : unshared_line TooMuch ≡ codes "{\"error\":\"too much\"}\n"
  pub could : could_line ((1, read_alone) ∷ (2, none) ∷ []) ≡ codes "{\"could\":[[1,\"r\"],[2,\"\"]]}\n"
