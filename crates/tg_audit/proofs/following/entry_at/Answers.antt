use Rattle.std.proofs.Common.{◌<◌}
use Rattle.tg_rights.specs.declared.limits.TheConstants.{SEATS}
use Rattle.tg_vault.specs.declared.entry.Entry.{Entry}
use Rattle.tg_audit.proofs.TableLemmas.{all_at}
use Rattle.tg_audit.proofs.following.entry_at.Goals as goal

pub returns-clause-seat : goal.returns-clause-seat
returns-clause-seat c = all_at (λ (e : Entry). e.seat < SEATS) c.args.vault.now.history c.args.number c.in-Some.entry.now c.soundness.ensures.vault.sat c.in-Some.ensures.some
