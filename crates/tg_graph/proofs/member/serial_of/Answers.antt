use Rattle.std.proofs.Common.{◌≡◌, ◌∷◌, ◌≤◌, ◌+◌, List, drop, cond, true, false, length, sym, ap, ◌∙◌, Some}
use Rattle.std.proofs.Math.ListN.{drop_of_length-le}
use Rattle.std.proofs.lemmas.List.{drop_more}
use Rattle.tg_graph.specs.declared.member.Member.{Member}
use Rattle.tg_graph.specs.Promise.Protection.{same_name, serial_of}
use Rattle.tg_graph.proofs.member.serial_of.Goals as goal

pub returns-then-eq : goal.returns-then-eq
returns-then-eq c =
    let ms = c.args.members.now in
    let i = c.loop-member.member-index in
    let m = c.member-item.result in
    let next : drop i ms ≡ m ∷ drop (i + 1) ms = drop_more ms i m c.loop-member-test.true ∙ ap (λ (n : Member). n ∷ drop (i + 1) ms) (sym c.member-item.is) in
    let same : same_name m.name c.args.name.now ≡ true = ap (λ bytes. same_name bytes c.args.name.now) (sym c.get.ensures.bytes) ∙ sym c.eq.ensures ∙ c.if-eq.true in
    sym (ap (λ b. cond b (Some m.serial) (serial_of (drop (i + 1) ms) c.args.name.now)) same) ∙ sym (ap (λ l. serial_of l c.args.name.now) next) ∙ c.loop-member.invariant

pub loop-member-preserved : goal.loop-member-preserved
loop-member-preserved c =
    let ms = c.args.members.now in
    let i = c.loop-member.member-index in
    let m = c.member-item.result in
    let next : drop i ms ≡ m ∷ drop (i + 1) ms = drop_more ms i m c.loop-member-test.true ∙ ap (λ (n : Member). n ∷ drop (i + 1) ms) (sym c.member-item.is) in
    let other : same_name m.name c.args.name.now ≡ false = ap (λ bytes. same_name bytes c.args.name.now) (sym c.get.ensures.bytes) ∙ sym c.eq.ensures ∙ c.if-eq.false in
    sym (ap (λ b. cond b (Some m.serial) (serial_of (drop (i + 1) ms) c.args.name.now)) other) ∙ sym (ap (λ l. serial_of l c.args.name.now) next) ∙ c.loop-member.invariant

pub returns : goal.returns
returns c =
    let ms = c.args.members.now in
    let past : length ms ≤ c.loop-member.member-index = c.loop-member-test.false in
    sym (ap (λ (l : List Member). serial_of l c.args.name.now) (drop_of_length-le ms past)) ∙ c.loop-member.invariant
