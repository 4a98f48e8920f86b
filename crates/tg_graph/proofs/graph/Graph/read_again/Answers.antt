use Rattle.std.proofs.Common.{◌≡◌, ◌∙◌, [], Some, true, false, ap, sym}
use Rattle.std.specs.Option.{option_map, option_map_or}
use Rattle.tg_rights.specs.Promise.Letters.{Letters, includes, read_alone}
use Rattle.tg_rights.specs.declared.outcome.Reply.TheVariants as reply
use Rattle.tg_graph.specs.declared.vertex.Vertex.{Vertex}
use Rattle.tg_graph.specs.Promise.Protection.{Protection, has_retired, label, vertex}
use Rattle.tg_graph.specs.Promise.Rules.{text_of}
use Rattle.tg_graph.proofs.EachCommandLemmas.{read_found}
use Rattle.tg_graph.proofs.ViewsLemmas.{vertex-shown}
use Rattle.tg_graph.proofs.graph.Graph.read_again.Goals as goal

pub returns-in-Document-clause-allowed : goal.returns-in-Document-clause-allowed
returns-in-Document-clause-allowed c =
    let G = c.args.self.now in
    let found : vertex G c.args.over ≡ Some c.in_ok-found.found.now = vertex-shown G c.self.inside.vertices.entries c.args.over (ap (λ (H : Protection). H.vertices) (sym c.self.view_is)) ∙ sym c.in_ok-found.ensures.value in
    let unretired : has_retired G c.args.actor ≡ false = sym c.retired.ensures ∙ c.if-retired.false in
    let own : includes (label G c.args.actor c.args.over) read_alone ≡ true =
    sym (ap (λ (l : Letters). includes l read_alone) c.rights.ensures) ∙ sym (ap (includes c.rights.result) c.read.ensures) ∙ sym c.contains.ensures ∙ c.if-not-contains.false in
    read_found G c.args.actor c.args.over unretired c.if-actor-over.false own (ap (option_map (λ (e : Vertex). e.kind)) found ∙ ap Some c.in-Document.is)

pub returns-in-Document-clause-same : goal.returns-in-Document-clause-same
returns-in-Document-clause-same c =
    let G = c.args.self.now in
    let found : vertex G c.args.over ≡ Some c.in_ok-found.found.now = vertex-shown G c.self.inside.vertices.entries c.args.over (ap (λ (H : Protection). H.vertices) (sym c.self.view_is)) ∙ sym c.in_ok-found.ensures.value in
    let is : text_of G c.args.over ≡ c.in_ok-found.found.now.text = ap (λ o. option_map_or (λ (e : Vertex). e.text) o []) found in
    (λ e. ap reply.Text is ∙ c.is_text.ensures.0 e, λ same. c.is_text.ensures.1 (sym (ap reply.Text is) ∙ same))
