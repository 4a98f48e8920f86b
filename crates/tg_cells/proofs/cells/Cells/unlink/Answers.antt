use Rattle.std.proofs.Common.{◌≡◌, ◌∙◌, ℕ, List, length, ap, refl, arith, ◌+◌, ◌++◌, cond, eqb, set}
use Rattle.std.specs.Vec.{with_items}
use Rattle.tg_cells.specs.declared.pool.Hop.{Hop}
use Rattle.tg_cells.specs.declared.pool.Rest.{Rest}
use Rattle.tg_cells.specs.Promise.Lists.{Edge}
use Rattle.tg_cells.specs.Inner.Index.{bucket_of}
use Rattle.tg_cells.specs.Inner.Inside.{place_in}
use Rattle.tg_cells.proofs.InsideLemmas.{linked_within, owner_fits, read_cell}
use Rattle.tg_cells.proofs.StepLemmas.{unlinks}
use Rattle.tg_cells.proofs.IndexLemmas.{stays, index_seen, indexes-unlink, linked_held}
use Rattle.tg_cells.proofs.cells.Cells.unlink.Goals as goal

pub rest-requires : goal.rest-requires
rest-requires c = let l = c.requires in linked_within c.self.inside c.args.self.now c.self.view_is c.self.invariant.inside c.args.cell c.args.owner l.before l.after l.edge l.stands

pub hop-requires : goal.hop-requires
hop-requires c = let l = c.requires in linked_within c.self.inside c.args.self.now c.self.view_is c.self.invariant.inside c.args.cell c.args.owner l.before l.after l.edge l.stands

pub rest-requires-2 : goal.rest-requires-2
rest-requires-2 c = let l = c.requires in linked_within c.self.inside c.args.self.now c.self.view_is c.self.invariant.inside c.args.cell c.args.owner l.before l.after l.edge l.stands

pub take-requires : goal.take-requires
take-requires c =
    let l = c.requires in
    let x = index_seen c.self.inside c.args.self.now c.self.view_is c.self.invariant in
    linked_held (place_in c.self.inside) c.self.inside.index.lists c.args.self.now.lists c.args.cell c.args.owner c.rest-2.result.now.serial c.bucket_of-bucket.result l.before l.after l.edge x.edges l.stands
    (ap (λ (x : Rest). x.serial) c.rest-2.ensures ∙ ap (λ (e : Edge). e.serial) (read_cell c.self.inside c.args.self.now c.self.view_is c.self.invariant.inside c.args.cell c.args.owner l.before l.after l.edge l.stands))
    (c.bucket_of-bucket.ensures.is ∙ ap (λ (m : ℕ). bucket_of c.self.inside.key m c.args.owner c.rest-2.result.now.serial) c.buckets.ensures)

pub set_head-requires : goal.set_head-requires
set_head-requires c =
    let l = c.requires in
    let own = owner_fits c.self.inside c.args.self.now c.self.view_is c.self.invariant.inside c.args.cell c.args.owner l.before l.after l.edge l.stands in
    let value = ap length c.deref_mut.ensures.value in
    omega arith

pub invariant_of-self : goal.invariant_of-self
invariant_of-self c =
    let l = c.requires in
    let x = index_seen c.self.inside c.args.self.now c.self.view_is c.self.invariant in
    let at : c.bucket_of-bucket.result ≡ place_in c.self.inside c.args.owner c.rest-2.result.now.serial = c.bucket_of-bucket.ensures.is ∙ ap (λ (m : ℕ). bucket_of c.self.inside.key m c.args.owner c.rest-2.result.now.serial) c.buckets.ensures in
    let named = ap (λ (x : Rest). x.serial) c.rest-2.ensures ∙ ap (λ (e : Edge). e.serial) (read_cell c.self.inside c.args.self.now c.self.view_is c.self.invariant.inside c.args.cell c.args.owner l.before l.after l.edge l.stands) in
    let below = c.bucket_of-bucket.ensures.within in
    let buckets = c.buckets.ensures in
    let done = unlinks c.self.inside c.args.self.now c.self.view_is c.self.invariant.inside c.set_next.new.self c.set_previous.new.self c.set_next-2.new.self c.set_head.new.heads c.take.new.self c.args.cell c.args.owner c.rest.result.now.previous c.hop.result.now.next l.before l.after l.edge l.stands
    (record {
      before = ap (λ (x : Rest). x.previous) c.rest.ensures;
      after = ap (λ (x : Hop). x.next) c.hop.ensures;
      heads = c.set_head.ensures ∙ ap (λ (hs : List ℕ). cond (eqb c.rest.result.now.previous c.self.inside.size) (set hs c.args.owner c.hop.result.now.next) hs) c.deref_mut.ensures.value;
      on = c.set_next.ensures;
      back = c.set_previous.ensures;
      freed = c.set_next-2.ensures;
    }) in
    (stays (record { cells = c.set_next-2.new.self; heads = with_items c.self.inside.heads c.set_head.new.heads; free = c.args.cell; free_count = c.self.inside.free_count + 1; size = c.self.inside.size; index = c.take.new.self; key = c.self.inside.key })
    (record c.args.self.now { lists = set c.args.self.now.lists c.args.owner (l.before ++ l.after); free = c.args.self.now.free + 1 }) done.left
    (indexes-unlink c.self.inside (record { cells = c.set_next-2.new.self; heads = with_items c.self.inside.heads c.set_head.new.heads; free = c.args.cell; free_count = c.self.inside.free_count + 1; size = c.self.inside.size; index = c.take.new.self; key = c.self.inside.key }) c.args.self.now c.args.owner c.args.cell c.bucket_of-bucket.result c.rest-2.result.now.serial l.before l.after l.edge x c.soundness.ensures l.stands done.fresh named at (omega arith)
    c.take.ensures refl done.same refl)).kept

pub returns : goal.returns
returns c = λ p e r st.
    (unlinks c.self.inside c.args.self.now c.self.view_is c.self.invariant.inside c.set_next.new.self c.set_previous.new.self c.set_next-2.new.self c.set_head.new.heads c.take.new.self c.args.cell c.args.owner c.rest.result.now.previous c.hop.result.now.next p r e st
    (record {
      before = ap (λ (x : Rest). x.previous) c.rest.ensures;
      after = ap (λ (x : Hop). x.next) c.hop.ensures;
      heads = c.set_head.ensures ∙ ap (λ (hs : List ℕ). cond (eqb c.rest.result.now.previous c.self.inside.size) (set hs c.args.owner c.hop.result.now.next) hs) c.deref_mut.ensures.value;
      on = c.set_next.ensures;
      back = c.set_previous.ensures;
      freed = c.set_next-2.ensures;
    })).left.shows
