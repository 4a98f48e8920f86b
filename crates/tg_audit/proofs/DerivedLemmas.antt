-- A history as a derivation.
use Rattle.std.proofs.Common.{◌≡◌, ◌⊎◌, ℕ, suc, ◌+◌, arith, List, [], ◌∷◌, ◌++◌, Some, None, true, inl, inr, refl, sym, ap, subst, ◌∙◌, take, slice_get}
use Rattle.std.specs.Prelude.{Option}
use Rattle.std.specs.List.{cons_option}
use Rattle.tg_rights.specs.declared.command.Command.{Command}
use Rattle.tg_rights.specs.declared.outcome.Outcome.{Outcome}
use Rattle.tg_rights.specs.declared.outcome.Outcome.TheVariants as outcome
use Rattle.tg_graph.specs.declared.derivation.Step.{Step}
use Rattle.tg_graph.specs.Promise.Fullness.{Limits, Permitted}
use Rattle.tg_graph.specs.Promise.Protection.{IsGraph, IsSubject, Protection, has_retired}
use Rattle.tg_graph.specs.Promise.Rewriting.{HasRightsOf, rewriting_step}
use Rattle.tg_graph.specs.Promise.Rules.{next_graph}
use Rattle.tg_graph.proofs.RewritingLemmas.{Onward, carried}
use Rattle.tg_vault.specs.declared.entry.Entry.{Entry}
use Rattle.tg_vault.specs.Promise.Contents.{Contents, graph_now}
use Rattle.tg_vault.specs.Promise.History.{EntryRun, Legal, graph_of}
use Rattle.tg_vault.proofs.HistoryLemmas.{IsLawful, asks_subject, graph_of_more, lawful_first, turn_keeps}
use Rattle.tg_vault.proofs.RetiredLemmas.{retired_leaves}
use Rattle.tg_audit.specs.Promise.Derived.{derivation_of, entry_step, rewriting_of}
use Rattle.tg_audit.proofs.ReplayLemmas.{take_more}

module _ (limits : Limits) (G H K : Protection) (x : ℕ) (h : HasRightsOf H G) (rest : List Step) where
  entry_onward : (c : Command) (o : Outcome) → IsSubject G x ⊎ (has_retired G x ≡ true) → Permitted limits G x c o →
      ((L : Protection) → HasRightsOf L (next_graph G x c o) → Onward L K rest) →
      Onward H K (cons_option (rewriting_of (record { actor = x; command = c }) o) rest)
  entry_onward c outcome.Allowed (inl subject) permitted onward =
      carried H G K x c rest h (record { subject = subject; allowed = permitted.0; room = permitted.1; result = refl }) onward
  entry_onward c outcome.Allowed (inr gone) permitted onward =
      let C : Command → Type 0 = λ d. ((L : Protection) → HasRightsOf L (next_graph G x d outcome.Allowed) → Onward L K rest) →
      Onward H K (cons_option (rewriting_step (record { actor = x; command = d })) rest) in
      subst C (sym (retired_leaves G x c gone permitted.0)) (λ on. on H h) onward
  entry_onward c _ asks permitted onward = onward H h

run_onward : (limits : Limits) (earlier : List Entry) (G H K : Protection) (es : List Entry) → IsLawful earlier G → EntryRun limits earlier G es K → HasRightsOf H G →
    Onward H K (derivation_of es)
run_onward limits earlier G H K [] lawful run h = (H, refl, subst (HasRightsOf H) (sym run) h)
run_onward limits earlier G H K (e ∷ es) lawful run h =
    let next = turn_keeps limits earlier G e run.0 lawful run.1 in
    entry_onward limits G H K e.actor h (derivation_of es) e.command e.outcome (asks_subject earlier G e.seat e.actor lawful run.1.0) run.1.1
    (λ L left. run_onward limits (earlier ++ e ∷ []) run.0 L K es next run.2 (subst (HasRightsOf L) (sym run.1.2) left))

pub history_derives : (v : Contents) (H : Protection) → IsGraph v.opening → Legal v.limits v.opening v.history (graph_now v) → HasRightsOf H v.opening → Onward H (graph_now v) (derivation_of v.history)
history_derives v H graph legal h =
    run_onward v.limits [] v.opening H (graph_now v) v.history (lawful_first v.opening graph) legal.graphs h

-- one more entry adds its step at the end
abbrev pub with_step : List Step → Option Step → List Step
with_step ss None = ss
with_step ss (Some s) = ss ++ s ∷ []

consed_more : (ss : List Step) (o s : Option Step) → cons_option o (with_step ss s) ≡ with_step (cons_option o ss) s
consed_more ss None s = refl
consed_more ss (Some t) None = refl
consed_more ss (Some t) (Some s) = refl

alone : (s : Option Step) → cons_option s [] ≡ with_step [] s
alone None = refl
alone (Some s) = refl

derived_more : (es : List Entry) (e : Entry) → derivation_of (es ++ e ∷ []) ≡ with_step (derivation_of es) (entry_step e)
derived_more [] e = alone (entry_step e)
derived_more (x ∷ es) e = ap (cons_option (entry_step x)) (derived_more es e) ∙ consed_more (derivation_of es) (entry_step x) (entry_step e)

pub derived_next : (v : Contents) (n : ℕ) (e : Entry) → slice_get v.history n ≡ Some e → derivation_of (take (suc n) v.history) ≡ with_step (derivation_of (take n v.history)) (entry_step e)
derived_next v n e at = ap derivation_of (sym (take_more v.history n e at)) ∙ derived_more (take n v.history) e

pub graph_next : (v : Contents) (n : ℕ) (e : Entry) → slice_get v.history n ≡ Some e → graph_of v.opening (take (suc n) v.history) ≡ next_graph (graph_of v.opening (take n v.history)) e.actor e.command e.outcome
graph_next v n e at = ap (graph_of v.opening) (sym (take_more v.history n e at)) ∙ graph_of_more v.opening (take n v.history) e

pub derived_add : (v : Contents) (n : ℕ) (e : Entry) (old new : List Step) (s : Option Step) → slice_get v.history n ≡ Some e → old ≡ derivation_of (take n v.history) → entry_step e ≡ s → new ≡ with_step old s →
    new ≡ derivation_of (take (n + 1) v.history)
derived_add v n e old new s at before is added =
    let next : n + 1 ≡ suc n = omega arith in
    added ∙ (λ i. with_step (before i) (sym is i)) ∙ sym (derived_next v n e at) ∙ ap (λ k. derivation_of (take k v.history)) (sym next)

pub graph_add : (v : Contents) (n : ℕ) (e : Entry) (G H : Protection) → slice_get v.history n ≡ Some e → G ≡ graph_of v.opening (take n v.history) → H ≡ next_graph G e.actor e.command e.outcome →
    H ≡ graph_of v.opening (take (n + 1) v.history)
graph_add v n e G H at before is =
    let next : n + 1 ≡ suc n = omega arith in
    is ∙ ap (λ F. next_graph F e.actor e.command e.outcome) before ∙ sym (graph_next v n e at) ∙ ap (λ k. graph_of v.opening (take k v.history)) (sym next)
