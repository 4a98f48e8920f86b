use Rattle.std.proofs.Common.{[], List, length, refl, ap, sym, ◌∙◌, arith}
use Rattle.tg_vault.specs.declared.entry.Entry.{Entry}
use Rattle.tg_share.proofs.locked.Locked.new.Goals as goal

pub invariant_of-result : goal.invariant_of-result
invariant_of-result g c = record {
  reached = record { opened = c.args.vault; events = []; answers = []; empty = c.requires.empty; coherent = c.soundness.ensures.coherent; course = refl };
  counted = c.requires.total ∙ sym (ap (λ (es : List Entry). length es) c.requires.empty);
  uncounted = c.requires.amount;
  parts = omega (arith, c.requires.parts);
  one_left = omega arith;
}
