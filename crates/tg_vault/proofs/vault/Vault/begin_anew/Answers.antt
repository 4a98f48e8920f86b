use Rattle.std.proofs.Common.{◌≡◌, IfSome, List, Option, Some, ℕ, [], length, ap, subst, sym, ◌∙◌}
use Rattle.tg_graph.specs.Promise.Protection.{Protection}
use Rattle.tg_vault.specs.Promise.World.{NobodySits}
use Rattle.tg_vault.specs.Promise.Contents.{Contents}
use Rattle.tg_vault.specs.Promise.Rebase.{IsRebased}
use Rattle.tg_vault.proofs.RebaseLemmas.{is_idle, rebased, same_graph, same_history, same_opening, same_seats}
use Rattle.tg_vault.proofs.vault.Vault.begin_anew.Goals as goal

pub opening_anew-requires-clause-idle : goal.opening_anew-requires-clause-idle
opening_anew-requires-clause-idle c = is_idle c.args.self c.cycle_thrice.new.self c.cycle_thrice.ensures

pub opening_anew-requires-clause-graph : goal.opening_anew-requires-clause-graph
opening_anew-requires-clause-graph c =
    subst (λ (G : Protection). IfSome c.args.graph (λ g. g ≡ G)) (sym (same_graph c.args.self c.cycle_thrice.new.self c.cycle_thrice.ensures)) c.requires.graph

pub reopen-past-requires-clause-nobody : goal.reopen-past-requires-clause-nobody
reopen-past-requires-clause-nobody c = subst (λ (seats : List (Option ℕ)). NobodySits seats) (sym (same_seats c.args.self c.cycle_thrice.new.self c.cycle_thrice.ensures)) c.requires.nobody

pub reopen-past-requires-clause-idle : goal.reopen-past-requires-clause-idle
reopen-past-requires-clause-idle c = is_idle c.args.self c.cycle_thrice.new.self c.cycle_thrice.ensures

pub returns-in-Ok-clause-rebased : goal.returns-in-Ok-clause-rebased
returns-in-Ok-clause-rebased c = (
  c.requires.nobody,
  c.count-dropped.ensures ∙ ap length (same_history c.args.self c.cycle_thrice.new.self c.cycle_thrice.ensures),
  subst (λ (w : Contents). IsRebased c.args.self w) (sym (c.reopen-past.ensures.fresh ∙ (λ i. record c.cycle_thrice.new.self { opening = c.in-Ok.ensures i; history = [] }))) (rebased c.runs_are_complete_and_bounded.ensures.complete c.restrictions_agree.ensures c.restrictions_permit.ensures c.restrictions_stay.ensures c.restrictions_reply.ensures
      c.args.self c.cycle_thrice.new.self c.cycle_thrice.ensures c.soundness.ensures.coherent c.soundness-2.ensures.coherent),
)

pub returns-in-Ok-clause-past : goal.returns-in-Ok-clause-past
returns-in-Ok-clause-past c = (
  c.reopen-past.ensures.history ∙ same_history c.args.self c.cycle_thrice.new.self c.cycle_thrice.ensures,
  c.reopen-past.ensures.before ∙ ap Some (same_opening c.args.self c.cycle_thrice.new.self c.cycle_thrice.ensures),
)

pub returns-in-Err-clause-rebased : goal.returns-in-Err-clause-rebased
returns-in-Err-clause-rebased c = (c.requires.nobody, c.cycle_thrice.ensures, same_history c.args.self c.cycle_thrice.new.self c.cycle_thrice.ensures, same_opening c.args.self c.cycle_thrice.new.self c.cycle_thrice.ensures)
