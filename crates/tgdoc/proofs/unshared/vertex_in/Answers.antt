use Rattle.std.proofs.Common.{◌∙◌, ap, refl, subst, sym}
use Rattle.tg_graph.specs.Promise.Protection.{named}
use Rattle.tg_wire.specs.Promise.Unshared.{unshared_line}
use Rattle.tg_wire.specs.declared.unshared.Unshared.TheVariants.{NoPrincipal, NoVertex}
use Rattle.tgdoc.specs.Promise.Named.{Names, NamesNone, no_principal, no_vertex}
use Rattle.tgdoc.specs.declared.question.VertexName.{VertexName}
use Rattle.tgdoc.proofs.SharingLemmas.{named_there, no_vertex_there}
use Rattle.tgdoc.proofs.unshared.vertex_in.Goals as goal

pub returns-in-None-clause-err : goal.returns-in-None-clause-err
returns-in-None-clause-err c =
    let G = c.args.graph.now in
    let n = c.in-Serial.serial in
    subst (λ (name : VertexName). NamesNone G name (unshared_line (NoVertex n))) (sym c.in-Serial.is) (no_vertex (no_vertex_there G n (sym c.in-None.ensures)) refl)

pub returns-in-Some-named-clause-ok : goal.returns-in-Some-named-clause-ok
returns-in-Some-named-clause-ok c =
    let G = c.args.graph.now in
    let x = c.in-Some-named.serial in
    let found = sym (c.in-Some-named.ensures ∙ ap (named G) c.get.ensures.bytes) in
    subst (λ (name : VertexName). Names G name x) (sym c.in-Principal.is) (found, named_there c.principals_come_and_go.ensures G c.in-Principal.name x c.soundness.ensures found)

pub returns-in-None-named-clause-err : goal.returns-in-None-named-clause-err
returns-in-None-named-clause-err c =
    let G = c.args.graph.now in
    subst (λ (name : VertexName). NamesNone G name (unshared_line NoPrincipal)) (sym c.in-Principal.is) (no_principal (sym (c.in-None-named.ensures ∙ ap (named G) c.get.ensures.bytes)) refl)
