use Rattle.std.proofs.Common.{ℕ, List, length, ◌∙◌, ap, cond, eqb, set, arith}
use Rattle.tg_lists.proofs.MembershipLemmas.{split_at}
use Rattle.tg_index.specs.declared.buckets.Link.{Link}
use Rattle.tg_index.specs.Promise.Rows.{row}
use Rattle.tg_index.specs.Inner.Links.{with_previous, with_next}
use Rattle.tg_index.proofs.RowLemmas.{held_within}
use Rattle.tg_index.proofs.StepLemmas.{held_used, seen, takes}
use Rattle.tg_index.proofs.buckets.Buckets.take.Goals as goal

pub index-requires : goal.index-requires
index-requires c =
    let within = held_used c.self.inside c.args.self.now c.args.bucket c.args.number c.self.view_is c.self.invariant c.requires in
    omega arith

pub index-requires-2 : goal.index-requires-2
index-requires-2 c =
    let within = held_used c.self.inside c.args.self.now c.args.bucket c.args.number c.self.view_is c.self.invariant c.requires in
    omega arith

pub set_head-requires : goal.set_head-requires
set_head-requires c =
    let heads = (seen c.self.inside c.args.self.now c.self.view_is c.self.invariant).heads in
    let own = held_within c.args.self.now.lists c.args.bucket c.args.number c.requires in
    let value = ap length c.deref_mut.ensures.value in
    omega arith

pub invariant_of-self : goal.invariant_of-self
invariant_of-self c =
    let s = split_at (row c.args.self.now.lists c.args.bucket) c.args.number c.requires in
    (takes c.self.inside c.args.self.now c.set_next.new.links c.set_previous.new.links c.set_head.new.heads c.args.bucket c.args.number s.before s.after c.index.result.now c.index-2.result.now c.self.view_is c.self.invariant s.is c.index.ensures c.index-2.ensures
    (c.set_head.ensures ∙ ap (λ (l : List ℕ). cond (eqb c.index.result.now.previous c.self.inside.size) (set l c.args.bucket c.index-2.result.now.next) l) c.deref_mut.ensures.value)
    (c.set_next.ensures ∙ ap (λ (l : List Link). with_next l c.index.result.now.previous c.index-2.result.now.next) c.deref_mut-2.ensures.value)
    (c.set_previous.ensures ∙ ap (λ (l : List Link). with_previous l c.index-2.result.now.next c.index.result.now.previous) c.deref_mut-3.ensures.value)).kept

pub returns : goal.returns
returns c = λ p r at.
    (takes c.self.inside c.args.self.now c.set_next.new.links c.set_previous.new.links c.set_head.new.heads c.args.bucket c.args.number p r c.index.result.now c.index-2.result.now c.self.view_is c.self.invariant at c.index.ensures c.index-2.ensures
    (c.set_head.ensures ∙ ap (λ (l : List ℕ). cond (eqb c.index.result.now.previous c.self.inside.size) (set l c.args.bucket c.index-2.result.now.next) l) c.deref_mut.ensures.value)
    (c.set_next.ensures ∙ ap (λ (l : List Link). with_next l c.index.result.now.previous c.index-2.result.now.next) c.deref_mut-2.ensures.value)
    (c.set_previous.ensures ∙ ap (λ (l : List Link). with_previous l c.index-2.result.now.next c.index.result.now.previous) c.deref_mut-3.ensures.value)).shows
