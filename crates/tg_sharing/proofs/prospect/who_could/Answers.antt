use Rattle.std.proofs.Common.{◌∷◌, [], ◌++◌, ℕ, List, get_or, take, ap, subst, sym, ◌∙◌}
use Rattle.std.specs.Option.{is_some}
use Rattle.std.proofs.lemmas.List.{take_more}
use Rattle.tg_sharing.specs.Promise.Prospects.{AreCould}
use Rattle.tg_sharing.specs.declared.prospect.Could.{Could}
use Rattle.tg_sharing.proofs.ProspectLemmas.{could_more, could_skip, kind_vertex, vertex_kind}
use Rattle.tg_sharing.proofs.prospect.who_could.Goals as goal
use Rattle.tg_sharing.proofs.prospect.who_could.Goals.{then-is_some+in_ok-answer+in_ok-push, else-is_some}

pub loop-vertex-preserved : goal.loop-vertex-preserved
loop-vertex-preserved c =
    let G = c.args.graph.now in
    let α = c.args.rights in
    let to = c.args.to in
    let asked = c.args.asked.now in
    let i = c.loop-vertex.vertex-index in
    let v : ℕ = get_or asked i 0 in
    let are = c.loop-vertex.invariant in
    let has = ap is_some (sym c.kind.ensures) ∙ sym c.is_some.ensures in
    subst (λ (l : List ℕ). AreCould G α to l c.if-is_some.found.items) (sym (take_more asked i 0 c.loop-vertex-test.true))
    (elim c.if-is_some.branch [
      | then-is_some+in_ok-answer+in_ok-push w ↦
          subst (λ (l : List (ℕ × Could)). AreCould G α to (take i asked ++ v ∷ []) l) (sym (ap (λ r. r.items) w.found-is ∙ w.in_ok-push.ensures.items))
          (could_more G α to (take i asked) c.loop-vertex.found.items are v (kind_vertex G v (has ∙ w.if-is_some.true)) _ w.in_ok-answer.ensures)
      | else-is_some w ↦
          subst (λ (l : List (ℕ × Could)). AreCould G α to (take i asked ++ v ∷ []) l) (sym (ap (λ r. r.items) w.found-is))
          (could_skip G α to (take i asked) c.loop-vertex.found.items are v (vertex_kind G v (has ∙ w.if-is_some.false)))
    ])
