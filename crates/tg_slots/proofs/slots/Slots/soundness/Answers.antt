use Rattle.std.proofs.Common.{◌≡◌, ◌∙◌, ap, length, arith}
use Rattle.tg_slots.specs.Promise.Table.{Table}
use Rattle.tg_slots.proofs.InsideLemmas.{size_is}
use Rattle.tg_slots.proofs.slots.Slots.soundness.Goals as goal

pub returns-clause-size : goal.returns-clause-size
returns-clause-size c =
    let all : c.self.inside.size ≡ length c.args.self.now.slots = size_is c.self.inside c.self.invariant ∙ ap (λ (t : Table). length t.slots) c.self.view_is in
    let most = c.self.invariant.size in
    omega (arith, all, most)
