use Rattle.std.proofs.Common.{ap, subst, ◌∙◌}
use Rattle.tg_collect.specs.Promise.Figures.{Shows}
use Rattle.tg_collect.specs.Promise.Readings.{free_slots, phase}
use Rattle.tg_vault.specs.Promise.Contents.{Contents}
use Rattle.tg_vault.proofs.vault.Vault.scene.Goals as goal

pub returns : goal.returns
returns c = record {
  shown = subst (λ (w : Contents). Shows w.store c.in_ok-vertices.vertices.items c.in_ok-vertices.edges.items) c.self.view_is c.in_ok-vertices.ensures;
  names = c.in_ok-names.ensures ∙ ap (λ (w : Contents). w.names) c.self.view_is;
  seats = c.in_ok-seats.ensures;
  free_slots = c.free_slots-slots_left.ensures ∙ ap (λ (w : Contents). free_slots w.store) c.self.view_is;
  free_cells = c.free_cells-cells_left.ensures ∙ ap (λ (w : Contents). w.store.free_cells) c.self.view_is;
  phase = c.phase-phase_now.ensures ∙ ap (λ (w : Contents). phase w.store) c.self.view_is;
}
