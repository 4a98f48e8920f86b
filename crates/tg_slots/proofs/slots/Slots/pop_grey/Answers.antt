use Rattle.std.proofs.Common.{◌≡◌, ◌∙◌, [], sym, ap, refl}
use Rattle.tg_slots.specs.Promise.Table.{Table}
use Rattle.tg_slots.proofs.StepLemmas.{pops, none_grey}
use Rattle.tg_slots.proofs.slots.Slots.pop_grey.Goals as goal

pub returns-in_err-self-inside : goal.returns-in_err-self-inside
returns-in_err-self-inside c =
    let none : c.args.self.now.grey ≡ [] = ap (λ (t : Table). t.grey) (sym c.self.view_is) ∙ none_grey c.self.inside c.self.invariant c.in_err-self-inside.ensures in
    rw c.from_residual.ensures (none, refl)

pub invariant_of-self : goal.invariant_of-self
invariant_of-self c = rw c.in_ok-self-inside.ensures.1 (pops c.self.inside c.self.invariant c.in_ok-self-inside.ensures.0).kept

pub returns : goal.returns
returns c = rw (c.in_ok-self-inside.ensures.1, ← c.self.view_is) (pops c.self.inside c.self.invariant c.in_ok-self-inside.ensures.0).was
