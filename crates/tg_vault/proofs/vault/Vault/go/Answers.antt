use Rattle.std.proofs.Common.{◌+◌, ap, ◌∙◌, arith, length}
use Rattle.tg_vault.proofs.CourseLemmas.{course_longer, keeps_on, one_more}
use Rattle.tg_vault.proofs.vault.Vault.go.Goals as goal

pub loop-event-preserved : goal.loop-event-preserved
loop-event-preserved c =
    let pushed = c.in-Ok-push.ensures.items in
    let room = c.in-Ok-push.ensures.capacity in
    record {
      course = course_longer c.args.self c.loop-event.vault c.step-answer.new.self c.args.events.now c.loop-event.answers.items c.push.new.self.items c.loop-event.event-index c.event-item.result c.step-answer.result
          c.loop-event.invariant.course
          (record { step = c.step-answer.ensures.step; keeps = c.step-answer.ensures.keeps; stored = c.step-answer.ensures.stored; told = c.step-answer.ensures.told; fits = c.soundness-in-loop-event.ensures.fits; coherent = c.soundness-in-loop-event.ensures.coherent })
          c.loop-event-test.true c.event-item.is pushed;
      count = ap length pushed ∙ one_more c.loop-event.answers.items c.step-answer.result ∙ ap (λ n. n + 1) c.loop-event.invariant.count;
      keeps = keeps_on c.args.self c.loop-event.vault c.step-answer.new.self c.loop-event.invariant.keeps c.step-answer.ensures.keeps;
      room = (let old = c.loop-event.invariant.room in omega arith);
    }
