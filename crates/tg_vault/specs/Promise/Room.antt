-- how much room a vault has left
use Rattle.std.specs.Prelude.{◌≡◌}
use Rattle.tg_collect.specs.Promise.Readings.{free_slots}
use Rattle.tg_vault.specs.declared.room.Room.{Room}
use Rattle.tg_vault.specs.Promise.Contents.{Contents}

pub record IsRoom (v : Contents) (r : Room) : Type 0 where
  pub slots : r.slots ≡ v.limits.slots
  pub free_slots : r.free_slots ≡ free_slots v.store
  pub cells : r.cells ≡ v.limits.cells
  pub free_cells : r.free_cells ≡ v.store.free_cells
