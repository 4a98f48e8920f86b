use Rattle.std.proofs.Common.{◌≡◌, ℕ, ◌+◌, true, ap, subst, ◌∙◌, arith}
use Rattle.tg_graph.specs.Promise.Fullness.{vertex_count}
use Rattle.tg_graph.specs.Promise.Protection.{Protection, IsVertex, has_retired}
use Rattle.tg_collect.specs.Promise.Readings.{free_slots}
use Rattle.tg_vault.specs.Promise.Contents.{Contents, graph_now}
use Rattle.tg_vault.proofs.RebaseLemmas.{all_held}
use Rattle.tg_vault.proofs.vault.Vault.holds_all.Goals as goal

pub returns-then-vertex_count-held : goal.returns-then-vertex_count-held
returns-then-vertex_count-held c = λ e.
    let v = c.args.self.now in
    let slots : c.self.inside.slots ≡ v.limits.slots = ap (λ (w : Contents). w.limits.slots) c.self.view_is in
    let free : c.from.result ≡ free_slots v.store = c.from.ensures ∙ c.free_slots.ensures ∙ ap (λ (w : Contents). free_slots w.store) c.self.view_is in
    let counted : c.vertex_count.result ≡ vertex_count (graph_now v) = c.vertex_count.ensures ∙ ap vertex_count c.requires.whole in
    let fits = c.soundness.ensures.fits.slots in
    let count : vertex_count (graph_now v) + free_slots v.store ≡ v.limits.slots = omega (arith, slots, free, counted, fits, c.if-vertex_count-held.true) in
    all_held v c.soundness.ensures.coherent c.requires.idle count (subst (λ (G : Protection). (x : ℕ) → has_retired G x ≡ true → IsVertex G x) c.requires.whole (c.has_all_retired.ensures.0 e))
