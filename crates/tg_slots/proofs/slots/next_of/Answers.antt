use Rattle.std.proofs.Common.{◌∙◌, arith, sym}
use Rattle.std.proofs.lemmas.List.{get_or_past, length-map}
use Rattle.tg_slots.specs.Inner.Linked.{Linked}
use Rattle.tg_slots.specs.Inner.Inside.{links}
use Rattle.tg_slots.proofs.InsideLemmas.{link_read}
use Rattle.tg_slots.proofs.slots.next_of.Goals as goal

pub returns-in-Some : goal.returns-in-Some
returns-in-Some c = let e = c.in-Some.ensures in e.1 ∙ sym (link_read c.args.entries.now.items c.args.id c.args.size e.0)

pub returns-in-None : goal.returns-in-None
returns-in-None c = sym (get_or_past (links c.args.entries.now.items) c.args.id c.args.size (let past = c.in-None.ensures in omega (arith, past, length-map c.args.entries.now.items (λ (e : Linked). e.link))))
