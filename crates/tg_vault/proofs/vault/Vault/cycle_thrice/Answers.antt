use Rattle.tg_vault.proofs.vault.Vault.cycle_thrice.Goals as goal

pub returns : goal.returns
returns c = record {
  first = c.cycle.new.self;
  second = c.cycle-2.new.self;
  one = c.cycle.result;
  two = c.cycle-2.result;
  three = c.cycle-3.result;
  begins = c.cycle.ensures.cycle;
  goes_on = c.cycle-2.ensures.cycle;
  ends = c.cycle-3.ensures.cycle;
}
