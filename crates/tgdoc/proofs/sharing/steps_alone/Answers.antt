use Rattle.std.proofs.Common.{◌++◌, ◌∙◌, ap, sym, subst}
use Rattle.tg_vault.specs.Promise.Contents.{graph_now}
use Rattle.tgdoc.specs.Inner.Asked.{AreRewritten}
use Rattle.tgdoc.specs.Promise.Sharing.{steps_text}
use Rattle.tgdoc.proofs.SharingLemmas.{steps_rewritten, steps_shown}
use Rattle.tgdoc.proofs.sharing.steps_alone.Goals as goal

pub push_steps-requires : goal.push_steps-requires
push_steps-requires c = record { rewritten = subst AreRewritten (sym c.requires.rewritten) (steps_rewritten c.args.steps.now) }

pub returns : goal.returns
returns c =
    steps_shown c.derivations_carry_over.ensures (graph_now c.args.vault.now) c.args.goal.now c.args.steps.now c.args.found.now c.push_steps.new.text.items c.requires.found c.requires.rewritten
    (c.in_ok-push_steps.ensures.lines ∙ ap (λ l. l ++ steps_text c.args.found.now) c.new-text.ensures.items) c.in_ok-push_steps.ensures.read
