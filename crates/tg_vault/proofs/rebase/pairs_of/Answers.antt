use Rattle.std.proofs.Common.{◌≡◌, ℕ, List, [], ◌∷◌, ◌++◌, take, ap, sym, ◌∙◌}
use Rattle.std.proofs.lemmas.List.{take_all, take_more}
use Rattle.tg_lists.proofs.MembershipLemmas.{map_append}
use Rattle.tg_graph.specs.declared.member.Member.{Member}
use Rattle.tg_graph.specs.Inner.Parts.{member_of, members_of}
use Rattle.tg_vault.proofs.rebase.pairs_of.Goals as goal

abbrev Pair : Type 0
Pair = List ℕ × ℕ

pub loop-member-preserved : goal.loop-member-preserved
loop-member-preserved c =
    let ms : List Member = c.args.members.now in
    let i = c.loop-member.member-index in
    let m : Member = c.member-item.result in
    let new : Pair = (c.in_ok-name.name, m.serial) in
    let is : member_of new ≡ m = λ j. record { name = c.in_ok-name.ensures j; serial = m.serial } in
    ap (λ (ns : List Pair). members_of ns) c.in_ok-push.ensures.items
    ∙ map_append member_of c.loop-member.found.items (new ∷ [])
    ∙ (λ j. c.loop-member.invariant j ++ is j ∷ [])
    ∙ ap (λ (n : Member). take i ms ++ n ∷ []) c.member-item.is
    ∙ sym (take_more ms i m c.loop-member-test.true)

pub returns : goal.returns
returns c = c.loop-member.invariant ∙ take_all c.loop-member.member-index c.args.members.now c.loop-member-test.false
