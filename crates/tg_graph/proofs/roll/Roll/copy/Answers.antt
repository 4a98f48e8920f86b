use Rattle.std.proofs.Common.{◌≡◌, ◌<◌, ◌≤◌, [], ◌∷◌, ◌++◌, length, ℕ, ◌+◌, drop, get_or, List, sym, ap, subst, ◌∙◌, append_assoc, append-nil, length-append, arith}
use Rattle.std.proofs.Math.ListN.{drop_of_length-le}
use Rattle.std.proofs.lemmas.List.{drop_more}
use Rattle.tg_graph.specs.declared.member.Member.{Member}
use Rattle.tg_graph.proofs.roll.Roll.copy.Goals as goal

pub loop-member-init : goal.loop-member-init
loop-member-init c = record {
  items = c.deref-member-items.ensures.value ∙ c.self.view_is;
  all = ap (λ (ms : List Member). ms ++ c.args.self.now) c.in_ok-copied.ensures;
  many = ap length c.in_ok-copied.ensures;
}

pub push-requires : goal.push-requires
push-requires c =
    let within = c.loop-member-test.true in
    let many = c.loop-member.invariant.many in
    let few = c.self.invariant.0 in
    let are = ap length c.deref-member-items.ensures.value in
    omega (arith, within, many, few, are)

pub loop-member-preserved : goal.loop-member-preserved
loop-member-preserved c =
    let ms = c.args.self.now in
    let i = c.loop-member.member-index in
    let m = c.member-item.result in
    let new : Member = record { name = c.in_ok-copy.field-0; serial = m.serial } in
    let is : new ≡ m = λ j. record { name = c.in_ok-copy.ensures j; serial = m.serial } in
    let items = c.loop-member.invariant.items in
    let within : i < length ms = subst (λ (l : List Member). i < length l) items c.loop-member-test.true in
    let item : m ≡ get_or ms i m = c.member-item.is ∙ ap (λ (l : List Member). get_or l i m) items in
    let left : drop i ms ≡ m ∷ drop (i + 1) ms = drop_more ms i m within ∙ ap (λ (n : Member). n ∷ drop (i + 1) ms) (sym item) in
    record {
      items = items;
      all =
          ap (λ (l : List Member). l ++ drop (i + 1) ms) c.push.ensures
          ∙ append_assoc c.loop-member.copied (new ∷ []) (drop (i + 1) ms)
          ∙ ap (λ (n : Member). c.loop-member.copied ++ n ∷ drop (i + 1) ms) is
          ∙ ap (λ (l : List Member). c.loop-member.copied ++ l) (sym left)
          ∙ c.loop-member.invariant.all;
      many = ap length c.push.ensures ∙ length-append c.loop-member.copied (new ∷ []) ∙ ap (λ (k : ℕ). k + 1) c.loop-member.invariant.many;
    }

pub returns : goal.returns
returns c =
    let ms = c.args.self.now in
    let past : length ms ≤ c.loop-member.member-index = subst (λ (l : List Member). length l ≤ c.loop-member.member-index) c.loop-member.invariant.items c.loop-member-test.false in
    sym (append-nil c.loop-member.copied) ∙ sym (ap (λ (l : List Member). c.loop-member.copied ++ l) (drop_of_length-le ms past)) ∙ c.loop-member.invariant.all
