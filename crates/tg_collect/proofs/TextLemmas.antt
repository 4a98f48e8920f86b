-- Texts that are replaced.
use Rattle.std.proofs.Common.{◌≡◌, Some, cond, refl, sym, ap, ◌∙◌}
use Rattle.std.specs.Cmp.{nat_cmp_total, unsigned_tied}
use Rattle.std.specs.FinMap as map
use Rattle.std.proofs.lemmas.Bool.{eq-eqb}
use Rattle.tg_graph.specs.declared.vertex.Vertex.{Vertex}
use Rattle.tg_graph.specs.Promise.Protection.{Protection}
use Rattle.tg_collect.specs.Promise.Readings.{held}
use Rattle.tg_collect.specs.Promise.Sessions.{TextsComeBack}

pub texts_come_back : TextsComeBack
texts_come_back u v w x text other old again first then =
    let e : Vertex = record first.vertex { text = text } in
    let vertices = ap (λ (G : Protection). G.vertices) (first.graph 0) in
    let here : map.get (map.insert (held u 0).vertices x e) x ≡ Some e =
    map.get-insert nat_cmp_total (held u 0).vertices x e x ∙ ap (λ b. cond b (Some e) (map.get (held u 0).vertices x)) (unsigned_tied x x ∙ eq-eqb x x refl) in
    let both : Some e ≡ Some then.vertex = sym here ∙ (sym (ap (λ m. map.get m x) vertices) ∙ then.was 0) in
    let same : e ≡ then.vertex = cc both in
    then.old ∙ ap (λ (d : Vertex). d.text) (sym same)
