use Rattle.std.proofs.Common.{◌≡◌, ℕ, ap, refl, sym, ◌∙◌, take, Some, slice_get, arith}
use Rattle.std.proofs.lemmas.Bool.{false≢true}
use Rattle.std.proofs.lemmas.Option.{slice_get_within}
use Rattle.tg_rights.specs.Promise.Letters.{Letters}
use Rattle.tg_graph.specs.Promise.Protection.{Protection}
use Rattle.tg_graph.specs.Promise.Rules.{edges_of}
use Rattle.tg_graph.specs.Inner.Views.{protection_of}
use Rattle.tg_graph.proofs.EdgesOfLemmas.{told, told_edges, step_shows, step_with}
use Rattle.tg_graph.proofs.RepeatingLemmas.{there_next, take_next}
use Rattle.tg_graph.proofs.graph.Graph.has_edges.Goals as goal

pub loop-serial-init : goal.loop-serial-init
loop-serial-init c =
    let shown = protection_of c.self.inside.vertices.entries c.self.inside.labels.entries c.self.inside.next c.self.inside.roll c.self.inside.retired.keys in record {
      within = search arith;
      edges = ap told c.into_iter-serial-iterator.ensures.into_iter_gives
          ∙ told_edges shown c.args.of c.self.inside.labels.entries _ c.self.invariant refl c.range-serial-items.ensures.ordered
          (c.range-serial-items.ensures.between tt) (c.range-serial-items.ensures.in_range tt).0
          ∙ ap (λ (G : Protection). edges_of G c.args.of) c.self.view_is;
    }

pub returns-then-not-is_there : goal.returns-then-not-is_there
returns-then-not-is_there c =
    let edge : ℕ × Letters = (c.in-Some.field-0-0.now.1, c.in-Some.field-0-1.now) in
    let so_far = c.loop-serial.invariant.edges in
    (λ e. absurd (false≢true e), λ e. absurd (false≢true (sym c.if-not-is_there.true ∙ c.is_there.ensures.1 (there_next c.args.listed.now c.loop-serial.at edge (told c.next.new.self) (step_shows (take c.loop-serial.at c.args.listed.now) _ _ _ _ so_far c.in-Some.ensures.steps (sym c.if-not-is_empty.ensures) ∙ e)))))

pub loop-serial-preserved-then-not-is_empty : goal.loop-serial-preserved-then-not-is_empty
loop-serial-preserved-then-not-is_empty c =
    let edge : ℕ × Letters = (c.in-Some.field-0-0.now.1, c.in-Some.field-0-1.now) in
    let here : slice_get c.args.listed.now c.loop-serial.at ≡ Some edge = c.is_there.ensures.0 c.if-not-is_there.false in record {
      within = omega (arith, slice_get_within c.args.listed.now c.loop-serial.at edge here);
      edges = step_with (take c.loop-serial.at c.args.listed.now) _ _ _ _ _ c.loop-serial.invariant.edges c.in-Some.ensures.steps (sym c.if-not-is_empty.ensures) (take_next c.args.listed.now c.loop-serial.at edge here);
    }
