-- the configuration line of a vault
use Rattle.std.specs.Prelude.{◌≡◌, ℕ, List, None, Ok, Err}
use Rattle.tg_graph.specs.declared.config.Config.{Config}
use Rattle.tg_graph.specs.declared.config.OpenFault.{OpenFault}
use Rattle.tg_graph.specs.Promise.Opening.{first_fault, IsRefusal}
use Rattle.tg_vault.specs.Promise.Contents.{Contents, IsFresh}
use Rattle.tg_vault.specs.Promise.Course.{IsCoherent}
use Rattle.tg_wire.specs.Promise.Configs.{opening_of}
use Rattle.tg_wire.specs.Promise.Lines.{config_of}
use Rattle.tg_wire.specs.Promise.Faults.{fault_line, open_fault_line}
use Rattle.tg_wire.specs.declared.fault.WireFault.{WireFault}
use Rattle.tg_wire.specs.declared.fault.WireFault.TheVariants as wire

-- the configuration line opens this vault: it is one of the configuration, before any event
pub record OpensVault (line : List ℕ) (v : Contents) : Type 0 where
  pub config : Config
  pub read : config_of line ≡ Ok (opening_of config)
  pub sound : first_fault config ≡ None
  pub fresh : IsFresh config v
  pub coherent : IsCoherent v

-- a configuration line is refused with this text
pub data RefusesOpening (line text : List ℕ) : Type 0 where
  misread : (f : WireFault) → config_of line ≡ Err f → text ≡ fault_line f → RefusesOpening line text
  unsound : (c : Config) (f : OpenFault) → config_of line ≡ Ok (opening_of c) → IsRefusal c f → text ≡ open_fault_line f → RefusesOpening line text
  -- no memory to read the line
  not_read : text ≡ fault_line wire.OutOfMemory → RefusesOpening line text
