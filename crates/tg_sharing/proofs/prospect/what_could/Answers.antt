use Rattle.std.proofs.Common.{◌≡◌, List, sym, subst, ◌∙◌, inl, inr, arith}
use Rattle.tg_graph.specs.declared.derivation.Step.{Step}
use Rattle.tg_graph.specs.Promise.Derivations.{Derives}
use Rattle.tg_graph.specs.Promise.Protection.{Protection}
use Rattle.tg_sharing.specs.Inner.Growing.{KeepsAll}
use Rattle.tg_sharing.proofs.ProspectLemmas.{never_gathered}
use Rattle.tg_sharing.proofs.prospect.what_could.Goals as goal

pub returns-then-not-branch : goal.returns-then-not-branch
returns-then-not-branch c =
    let G = c.args.graph.now in
    let d = c.new-derivation.result in
    let e = c.gather_all.new.self in
    let same : d.graph ≡ G = c.new-derivation.ensures.graph ∙ c.in_ok-copy.ensures.equal in
    let begun : Derives G d.steps.items d.graph = subst (λ (l : List Step). Derives G l d.graph) (sym c.new-derivation.ensures.steps) same in (
      e.steps.items,
      e.graph,
      c.in_ok-gather_all.ensures.continues.derived G begun,
      elim (c.in_ok-gather_all.ensures.ended c.if-not-branch.true) [ inl full ↦ inl full | inr many ↦ inr (let is = e.steps.ok.0 in omega (arith, many, is)) ],
    )

pub returns : goal.returns
returns c =
    let G = c.args.graph.now in
    let from = c.args.from in
    let d = c.new-derivation.result in
    let e = c.gather_all.new.self in
    let same : d.graph ≡ G = c.new-derivation.ensures.graph ∙ c.in_ok-copy.ensures.equal in
    let begun : Derives G d.steps.items d.graph = subst (λ (l : List Step). Derives G l d.graph) (sym c.new-derivation.ensures.steps) same in
    let step = c.in_ok-gather_all.ensures.continues in
    record {
      reached = e.graph;
      derived = step.derived G begun;
      labels = c.in_ok-labels.ensures;
      whole = never_gathered c.withheld_for_ever.ensures G e.graph c.in_ok-marks.marks from c.soundness.ensures c.requires c.in_ok-marks.ensures.from c.in_ok-marks.ensures.closed
          (subst (λ (H : Protection). KeepsAll H e.graph) same step.keeps) (c.in_ok-gather_all.ensures.gathered c.if-not-branch.false);
    }
