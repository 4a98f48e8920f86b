use Rattle.std.proofs.Common.{◌≡◌, [], ap, sym, ◌∙◌}
use Rattle.std.specs.Option.{option_map_or}
use Rattle.tg_rights.specs.declared.outcome.Reply.TheVariants as reply
use Rattle.tg_graph.specs.Promise.Rules.{text_of}
use Rattle.tg_graph.proofs.ViewsLemmas.{vertex-shown}
use Rattle.tg_graph.proofs.graph.Graph.tells.Goals as goal

pub returns-in-Some : goal.returns-in-Some
returns-in-Some c =
    let is : text_of c.args.self.now c.args.of ≡ c.in-Some.found.now.text = ap (λ o. option_map_or (λ e. e.text) o []) (vertex-shown c.args.self.now c.self.inside.vertices.entries c.args.of (ap (λ G. G.vertices) (sym c.self.view_is)) ∙ sym c.in-Some.ensures.value) in
    (λ e. ap reply.Text is ∙ c.is_text.ensures.0 e, λ same. c.is_text.ensures.1 (sym (ap reply.Text is) ∙ same))

pub returns-in-None : goal.returns-in-None
returns-in-None c =
    let is : text_of c.args.self.now c.args.of ≡ [] = ap (λ o. option_map_or (λ e. e.text) o []) (vertex-shown c.args.self.now c.self.inside.vertices.entries c.args.of (ap (λ G. G.vertices) (sym c.self.view_is)) ∙ sym c.in-None.ensures.value) in
    let text = is ∙ sym c.empty.ensures in
    (λ e. ap reply.Text text ∙ c.is_text-in-None.ensures.0 e, λ same. c.is_text-in-None.ensures.1 (sym (ap reply.Text text) ∙ same))
