use Rattle.tg_vault.proofs.CourseLemmas.{course_append}
use Rattle.tg_vault.proofs.laws.courses_join.Goals as goal

pub returns : goal.returns
returns c = λ old between new es more answers later first then. course_append old between new es more answers later first then
