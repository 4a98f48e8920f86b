use Rattle.std.proofs.Common.{◌≡◌, ◌∙◌, ℕ, refl, ap, sym, min, length, arith}
use Rattle.tg_slots.specs.declared.slots.Occupant.{Occupant}
use Rattle.tg_slots.specs.Inner.Inside.{table}
use Rattle.tg_slots.specs.Promise.Table.{Table}
use Rattle.tg_slots.proofs.StepLemmas.{full, some_free, takes, pale}
use Rattle.tg_slots.proofs.slots.Slots.take_free.Goals as goal

pub overflow_cast-len : goal.overflow_cast-len
overflow_cast-len c = let used = c.self.invariant.shown.used in let most = c.self.invariant.size in omega arith

pub returns-then-id-self : goal.returns-then-id-self
returns-then-id-self c =
    let at : c.min-id.result ≡ min c.self.inside.free (length c.self.inside.entries.items) = c.min-id.ensures ∙ ap (λ (m : ℕ). min c.self.inside.free m) c.len.ensures in
    let past = c.if-id-self.true in
    (refl, ap (λ (t : Table). t.free) (sym c.self.view_is) ∙ full c.self.inside.size c.self.inside.entries.items c.self.inside.free c.self.inside.grey (table c.self.inside) c.self.invariant.shown (omega (arith, at, past)), refl)

pub overflow_sub-self : goal.overflow_sub-self
overflow_sub-self c =
    let at : c.min-id.result ≡ min c.self.inside.free (length c.self.inside.entries.items) = c.min-id.ensures ∙ ap (λ (m : ℕ). min c.self.inside.free m) c.len.ensures in
    let some = some_free c.self.inside.size c.self.inside.entries.items c.self.inside.free c.self.inside.grey (table c.self.inside) c.self.invariant.shown c.min-id.result at c.if-id-self.false in let count = c.self.invariant.count in omega arith

pub invariant_of-self : goal.invariant_of-self
invariant_of-self c =
    let at : c.min-id.result ≡ min c.self.inside.free (length c.self.inside.entries.items) = c.min-id.ensures ∙ ap (λ (m : ℕ). min c.self.inside.free m) c.len.ensures in
    let o : Occupant = record { serial = c.args.serial; kind = c.args.kind; colour = c.args.colour; text = c.args.text } in
    (takes c.self.inside c.fill.new.self c.min-id.result c.next_of-self-inside.result o c.self.invariant at c.if-id-self.false c.next_of-self-inside.ensures (pale c.args.colour c.requires) c.fill.ensures.items c.fill.ensures.room).kept

pub returns : goal.returns
returns c =
    let at : c.min-id.result ≡ min c.self.inside.free (length c.self.inside.entries.items) = c.min-id.ensures ∙ ap (λ (m : ℕ). min c.self.inside.free m) c.len.ensures in
    let o : Occupant = record { serial = c.args.serial; kind = c.args.kind; colour = c.args.colour; text = c.args.text } in
    let t = takes c.self.inside c.fill.new.self c.min-id.result c.next_of-self-inside.result o c.self.invariant at c.if-id-self.false c.next_of-self-inside.ensures (pale c.args.colour c.requires) c.fill.ensures.items c.fill.ensures.room in
    rw (← c.self.view_is) (t.free, t.grey, t.slots)
