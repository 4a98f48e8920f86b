use Rattle.std.proofs.Common.{ℕ, List, [], ◌∷◌, ◌++◌, map, take, ap, sym, ◌∙◌}
use Rattle.std.proofs.lemmas.List.{take_all, take_more}
use Rattle.tg_lists.proofs.MembershipLemmas.{map_append}
use Rattle.tg_graph.specs.Promise.Parts.{Listed}
use Rattle.tg_vault.proofs.rebase.serials_in.Goals as goal

abbrev serials : List Listed → List ℕ
serials vs = map (λ (v : Listed). v.0) vs

pub loop-vertex-preserved : goal.loop-vertex-preserved
loop-vertex-preserved c =
    let vs : List Listed = c.args.vertices.now in
    let i = c.loop-vertex.vertex-index in
    let v : Listed = c.vertex-item.result in
    let pushed = ap (λ (ns : List ℕ). ns ++ v.0 ∷ []) c.loop-vertex.invariant ∙ sym (map_append (λ (w : Listed). w.0) (take i vs) (v ∷ [])) in
    let taken = ap serials (ap (λ (w : Listed). take i vs ++ w ∷ []) c.vertex-item.is ∙ sym (take_more vs i v c.loop-vertex-test.true)) in
    ◌∙◌ {A = List ℕ} c.in_ok-push.ensures.items (pushed ∙ taken)

pub returns : goal.returns
returns c = c.loop-vertex.invariant ∙ ap serials (take_all c.loop-vertex.vertex-index c.args.vertices.now c.loop-vertex-test.false)
