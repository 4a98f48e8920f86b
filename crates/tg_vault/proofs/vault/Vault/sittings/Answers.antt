use Rattle.std.proofs.Common.{◌≡◌, List, add-one, ap, arith, length, sym, ◌∙◌}
use Rattle.tg_vault.specs.declared.scene.Sitting.{Sitting}
use Rattle.tg_vault.specs.Promise.Scenes.{sittings_below, with_sitting}
use Rattle.tg_vault.proofs.vault.Vault.sittings.Goals as goal

pub loop-seat-preserved : goal.loop-seat-preserved
loop-seat-preserved c =
    let v = c.args.self.now in
    let seat = c.loop-seat.seat in
    c.in_ok-add_sitting.ensures
    ∙ ap (λ (l : List Sitting). with_sitting l c.sitting-taken.result) c.loop-seat.invariant
    ∙ ap (with_sitting (sittings_below v seat)) c.sitting-taken.ensures
    ∙ ap (sittings_below v) (sym (add-one seat))

pub returns : goal.returns
returns c =
    let seats : length c.args.self.now.seats ≡ 64 = c.soundness.ensures.vault.seats in
    let all : c.loop-seat.seat ≡ length c.args.self.now.seats = omega (arith, seats) in
    c.loop-seat.invariant ∙ ap (sittings_below c.args.self.now) all
