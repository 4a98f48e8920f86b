use Rattle.std.proofs.Common.{◌≡◌, List, ℕ, ap, ◌∙◌}
use Rattle.std.specs.Prelude.{Option}
use Rattle.tg_vault.specs.Promise.Contents.{Contents}
use Rattle.tg_vault.specs.Promise.Scenes.{sitting, sitting_of}
use Rattle.tg_vault.specs.Promise.World.{at_seat}
use Rattle.tg_vault.proofs.vault.Vault.sitting.Goals as goal

pub returns : goal.returns
returns c =
    let seat = c.args.seat in
    let who : c.at_seat-who.result ≡ at_seat c.self.inside.seats.items seat = c.at_seat-who.ensures ∙ ap (λ (l : List (Option ℕ)). at_seat l seat) c.as_slice-seats.ensures.value in
    c.sitting_of.ensures ∙ (λ i. sitting_of seat (who i) (c.agent_at-whom.ensures i) (c.pending-what.ensures i)) ∙ ap (λ (w : Contents). sitting w seat) c.self.view_is
