use Rattle.std.proofs.Common.{◌≡◌, ◌∙◌, Some, slice_get, sym, refl, rules}
use Rattle.std.proofs.lemmas.Bool.{false≢true}
use Rattle.std.proofs.lemmas.Option.{none-some, slice_get_past, slice_get_read}
use Rattle.tg_graph.proofs.RepeatingLemmas.{is_edge, other_edge}
use Rattle.tg_graph.proofs.repeating.is_there.Goals as goal

pub returns-then-edge-serial : goal.returns-then-edge-serial
returns-then-edge-serial c =
    let y = c.in-Some.edge.now in
    let here : slice_get c.args.listed.now c.args.at ≡ Some y = slice_get_read c.args.listed.now _ c.args.at y refl (search rules) (search rules) in
    let edge = is_edge y c.args.serial c.args.label c.if-edge-serial.true in (λ e. here ∙ edge.0 (sym c.eq.ensures ∙ e), λ e. c.eq.ensures ∙ edge.1 (sym here ∙ e))

pub returns-else-edge-serial : goal.returns-else-edge-serial
returns-else-edge-serial c =
    let y = c.in-Some.edge.now in
    let here : slice_get c.args.listed.now c.args.at ≡ Some y = slice_get_read c.args.listed.now _ c.args.at y refl (search rules) (search rules) in
    let edge = other_edge y c.args.serial c.args.label c.if-edge-serial.false in (λ e. here ∙ edge.0 e, λ e. edge.1 (sym here ∙ e))

pub returns-in-None : goal.returns-in-None
returns-in-None c = (λ e. absurd (false≢true e), λ e. absurd (none-some (c.args.serial, c.args.label) (sym (slice_get_past c.args.listed.now c.args.at (search rules)) ∙ e)))
