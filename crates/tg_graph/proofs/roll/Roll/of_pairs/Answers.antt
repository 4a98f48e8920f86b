use Rattle.std.proofs.Common.{◌≡◌, ℕ, ◌∷◌, [], ◌++◌, List, length, sym, ap, subst, ◌∙◌, length-append, arith, rules}
use Rattle.std.specs.List.Sorted.{IsNonDecreasingBy, IsPermutation}
use Rattle.std.specs.Vec.Iter.{into_iter_items}
use Rattle.std.proofs.lemmas.List.Sorted.{IsNonDecreasingBy-from_sort_by_key, IsPermutation-map, length_permutation}
use Rattle.tg_lists.proofs.MembershipLemmas.{map_append}
use Rattle.tg_graph.specs.declared.member.Member.{Member}
use Rattle.tg_graph.specs.Inner.Parts.{member_of, members_of}
use Rattle.tg_graph.proofs.ListedLemmas.{all_given, members_length, members_up, one_more}
use Rattle.tg_graph.proofs.roll.Roll.of_pairs.Goals as goal

abbrev Pair : Type 0
Pair = List ℕ × ℕ

pub push-requires : goal.push-requires
push-requires c =
    let at = c.loop-pair in
    let x : Pair = c.in-Some.pair in
    let steps : into_iter_items at.pair-iterator ≡ x ∷ into_iter_items c.next.new.self = c.in-Some.ensures.steps.0 in
    let here = ap length at.invariant.members ∙ members_length at.yielded in
    let all = ap length (sym at.invariant.all ∙ ap (λ (l : List Pair). at.yielded ++ l) steps) ∙ length-append at.yielded (x ∷ into_iter_items c.next.new.self) in
    let gives = ap length c.into_iter-pair-iterator.ensures.into_iter_gives.0 in
    let moved = length_permutation c.args.pairs.items c.sort_unstable_by_key.new.self.items c.sort_unstable_by_key.ensures.permutation in
    let few = c.requires in
    omega (arith, here, all, gives, moved, few)

pub loop-pair-preserved : goal.loop-pair-preserved
loop-pair-preserved c =
    let at = c.loop-pair in
    let x : Pair = c.in-Some.pair in
    let steps : into_iter_items at.pair-iterator ≡ x ∷ into_iter_items c.next.new.self = c.in-Some.ensures.steps.0 in
    record {
      all = one_more at.yielded (into_iter_items at.pair-iterator) (into_iter_items c.next.new.self) _ x at.invariant.all steps;
      members = c.push.ensures ∙ ap (λ (l : List Member). l ++ record { name = x.0; serial = x.1 } ∷ []) at.invariant.members ∙ sym (map_append member_of at.yielded (x ∷ []));
      many = (let was = at.invariant.many in let gone = c.in-Some.ensures.steps.1 in let short = ap length steps in omega (arith, was, gone, short));
    }

pub returns-clause-same : goal.returns-clause-same
returns-clause-same c =
    let at = c.loop-pair in
    let sorted : List Pair = c.sort_unstable_by_key.new.self.items in
    let given = all_given at.yielded (into_iter_items at.pair-iterator) sorted (at.invariant.all ∙ c.into_iter-pair-iterator.ensures.into_iter_gives.0) (sym at.invariant.many ∙ c.in-None.ensures.steps.0) in
    subst (IsPermutation (members_of c.args.pairs.items)) (sym (at.invariant.members ∙ ap (λ (l : List Pair). members_of l) given))
    (IsPermutation-map member_of c.args.pairs.items sorted c.sort_unstable_by_key.ensures.permutation)

pub returns-clause-rising : goal.returns-clause-rising
returns-clause-rising c =
    let at = c.loop-pair in
    let sorted : List Pair = c.sort_unstable_by_key.new.self.items in
    let given = all_given at.yielded (into_iter_items at.pair-iterator) sorted (at.invariant.all ∙ c.into_iter-pair-iterator.ensures.into_iter_gives.0) (sym at.invariant.many ∙ c.in-None.ensures.steps.0) in
    subst (IsNonDecreasingBy (λ (m : Member). m.serial)) (sym (at.invariant.members ∙ ap (λ (l : List Pair). members_of l) given))
    (members_up sorted (IsNonDecreasingBy-from_sort_by_key (λ (n : Pair). n.1) sorted c.sort_unstable_by_key.ensures.sorted (λ a r q k. search rules)))
