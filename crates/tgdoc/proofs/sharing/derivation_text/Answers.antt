use Rattle.std.proofs.Common.{◌∙◌, sym, subst}
use Rattle.tgdoc.specs.Inner.Asked.{AreRewritten}
use Rattle.tgdoc.proofs.SharingLemmas.{history_rewritten, sharing_shown, steps_rewritten}
use Rattle.tgdoc.proofs.sharing.derivation_text.Goals as goal

pub push_steps-requires : goal.push_steps-requires
push_steps-requires c = record { rewritten = subst AreRewritten (sym (c.deref.ensures.value ∙ c.in_ok-before.ensures)) (history_rewritten c.args.vault.now.history) }

pub push_steps-requires-2 : goal.push_steps-requires-2
push_steps-requires-2 c = record { rewritten = subst AreRewritten (sym c.requires.rewritten) (steps_rewritten c.args.steps.now) }

pub returns : goal.returns
returns c =
    sharing_shown c.derivations_carry_over.ensures c.histories_derive.ensures c.openings_are_as_listed.ensures c.args.vault.now c.args.first.now c.args.goal.now c.args.steps.now c.deref.result.now c.args.found.now
    c.in_ok-text.text.items c.push_steps.new.text.items c.push_steps-2.new.text.items c.soundness.ensures.coherent.ties.opened c.soundness.ensures.vault.legal c.requires.opens c.goal_reads_back.ensures
    c.requires.found c.requires.rewritten (c.deref.ensures.value ∙ c.in_ok-before.ensures) c.in_ok-text.ensures c.in_ok-push_steps.ensures.lines c.in_ok-push_steps-2.ensures.lines
    c.in_ok-push_steps.ensures.read c.in_ok-push_steps-2.ensures.read
