use Rattle.std.proofs.Common.{List, sym, subst, ◌∙◌}
use Rattle.tg_graph.specs.declared.derivation.Step.{Step}
use Rattle.tg_graph.specs.Promise.Derivations.{Derives}
use Rattle.tg_sharing.specs.Inner.Fetching.{AreFetched}
use Rattle.tg_sharing.specs.declared.sharing.Found.{Found}
use Rattle.tg_sharing.proofs.SharingLemmas.{all_shared, never_shared}
use Rattle.tg_sharing.proofs.sharing.derived.Goals as goal

pub returns-in-Nobody : goal.returns-in-Nobody
returns-in-Nobody c =
    let G = c.args.graph.now in
    let lacking = subst (λ (f : Found). AreFetched G c.share_all.new.self.graph c.args.marks.now c.args.goal.now f) c.in-Nobody.is c.in_ok-share_all.ensures.found in
    never_shared c.withheld_for_ever.ensures G c.args.goal.now c.args.marks.now lacking.0 c.soundness.ensures c.requires.from c.requires.to c.requires.own c.requires.closed lacking.1

pub returns-in-NoSerial : goal.returns-in-NoSerial
returns-in-NoSerial c =
    let G = c.args.graph.now in
    let d = c.new-derivation.result in
    let e = c.share_all.new.self in
    let begun : Derives G d.steps.items d.graph = subst (λ (l : List Step). Derives G l d.graph) (sym c.new-derivation.ensures.steps) (c.new-derivation.ensures.graph ∙ c.in_ok-copy.ensures.equal) in
    (e.graph, c.in_ok-share_all.ensures.continues.derived G begun, subst (λ (f : Found). AreFetched G e.graph c.args.marks.now c.args.goal.now f) c.in-NoSerial.is c.in_ok-share_all.ensures.found)

pub returns-in-Here : goal.returns-in-Here
returns-in-Here c =
    let G = c.args.graph.now in
    let d = c.new-derivation.result in
    let e = c.share_all.new.self in
    let begun : Derives G d.steps.items d.graph = subst (λ (l : List Step). Derives G l d.graph) (sym c.new-derivation.ensures.steps) (c.new-derivation.ensures.graph ∙ c.in_ok-copy.ensures.equal) in (
      e.graph,
      c.in_ok-share_all.ensures.continues.derived G begun,
      all_shared G e.graph c.args.marks.now c.args.goal.now (subst (λ (f : Found). AreFetched G e.graph c.args.marks.now c.args.goal.now f) c.in-Here.is c.in_ok-share_all.ensures.found),
    )
