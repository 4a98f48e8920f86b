use Rattle.std.proofs.Common.{◌≡◌, ◌≤◌, [], ◌∷◌, ◌++◌, length, ℕ, ◌+◌, drop, List, refl, sym, ap, ◌∙◌, add-one, append_assoc, append-nil, length-append, arith}
use Rattle.std.proofs.Math.ListN.{drop_of_length-le}
use Rattle.std.proofs.lemmas.List.{drop_more}
use Rattle.tg_graph.specs.declared.member.Member.{Member}
use Rattle.tg_graph.specs.Promise.Opening.{first_members}
use Rattle.tg_graph.proofs.roll.Roll.of_names.Goals as goal

pub loop-word-init : goal.loop-word-init
loop-word-init c = record { all = ap (λ (ms : List Member). ms ++ first_members 1 c.args.names.now) c.in_ok-roll.ensures; next = refl; many = ap length c.in_ok-roll.ensures }

pub push-requires : goal.push-requires
push-requires c =
    let within = c.loop-word-test.true in
    let many = c.loop-word.invariant.many in
    let few = c.requires.few in
    omega (arith, within, many, few)

pub overflow_add-serial : goal.overflow_add-serial
overflow_add-serial c =
    let within = c.loop-word-test.true in
    let next = c.loop-word.invariant.next in
    let few = c.requires.few in
    omega (arith, within, next, few)

pub loop-word-preserved : goal.loop-word-preserved
loop-word-preserved c =
    let words = c.args.names.now in
    let i = c.loop-word.word-index in
    let ms = c.loop-word.roll in
    let n = c.loop-word.serial in
    let word = c.word-item.result in
    let new : Member = record { name = c.in-Ok.name; serial = n } in
    let is : c.in-Ok.name ≡ word = c.in-Ok.ensures.ok ∙ c.in_ok-content.ensures.ok ∙ c.get.ensures in
    let left : drop i words ≡ word ∷ drop (i + 1) words = drop_more words i word c.loop-word-test.true ∙ ap (λ (w : List ℕ). w ∷ drop (i + 1) words) (sym c.word-item.is) in
    record {
      all =
          ap (λ (l : List Member). l ++ first_members (n + 1) (drop (i + 1) words)) c.push.ensures
          ∙ append_assoc ms (new ∷ []) (first_members (n + 1) (drop (i + 1) words))
          ∙ (λ j. ms ++ record { name = is j; serial = n } ∷ first_members (add-one n j) (drop (i + 1) words))
          ∙ ap (λ (l : List (List ℕ)). ms ++ first_members n l) (sym left)
          ∙ c.loop-word.invariant.all;
      next = ap (λ (k : ℕ). k + 1) c.loop-word.invariant.next;
      many = ap length c.push.ensures ∙ length-append ms (new ∷ []) ∙ ap (λ (k : ℕ). k + 1) c.loop-word.invariant.many;
    }

pub returns : goal.returns
returns c =
    let words = c.args.names.now in
    let past : length words ≤ c.loop-word.word-index = c.loop-word-test.false in
    sym (append-nil c.loop-word.roll) ∙ sym (ap (λ (l : List (List ℕ)). c.loop-word.roll ++ first_members c.loop-word.serial l) (drop_of_length-le words past)) ∙ c.loop-word.invariant.all
