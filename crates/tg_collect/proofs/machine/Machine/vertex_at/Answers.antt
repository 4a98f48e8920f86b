use Rattle.std.proofs.Common.{ap, List, Some, ℕ, rules, sym, ◌∙◌}
use Rattle.tg_collect.proofs.PartsLemmas.{listed_shown, text_there}
use Rattle.tg_collect.proofs.machine.Machine.vertex_at.Goals as goal

pub unwrap-requires : goal.unwrap-requires
unwrap-requires c = text_there c.args.self.now c.args.id c.in-Some.shown c.text.result (λ t. t.now) c.in-Some.ensures c.text.ensures

pub returns-in_ok-text-in-Some : goal.returns-in_ok-text-in-Some
returns-in_ok-text-in-Some c =
    let text = rw c.unwrap.ensures at c.text.ensures in
    listed_shown c.args.self.now c.args.id c.in-Some.shown c.in_ok-text-in-Some.text c.in-Some.ensures (search rules) (text ∙ ap (λ (t : List ℕ). Some t) (sym c.in_ok-text-in-Some.ensures.same))
