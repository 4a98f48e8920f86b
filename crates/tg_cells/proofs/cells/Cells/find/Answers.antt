use Rattle.std.proofs.Common.{◌≡◌, ◌<◌, ◌∙◌, ℕ, Option, None, length, subst, sym, ap}
use Rattle.tg_index.specs.Promise.Rows.{row}
use Rattle.tg_index.proofs.RowLemmas.{left}
use Rattle.tg_cells.specs.Inner.Index.{bucket_of}
use Rattle.tg_cells.proofs.IndexLemmas.{Seeks, seeks_start, seeks_held, seeks_within, seeks_found, seeks_on, seeks_end}
use Rattle.tg_cells.proofs.cells.Cells.find.Goals as goal

pub loop-cursor-init : goal.loop-cursor-init
loop-cursor-init c = seeks_start (row c.self.inside.index.lists c.bucket_of-bucket.result) c.self.inside.cells.items c.args.owner c.args.serial c.first-cursor.result c.first-cursor.ensures

pub is_of-requires : goal.is_of-requires
is_of-requires c =
    let k = subst (λ (o : Option ℕ). Seeks (row c.self.inside.index.lists c.bucket_of-bucket.result) c.self.inside.cells.items c.args.owner c.args.serial o) c.in-Some.is c.loop-cursor.invariant in
    seeks_within c.self.inside c.args.self.now c.bucket_of-bucket.result c.args.owner c.args.serial c.in-Some.number c.self.view_is c.self.invariant k

pub returns-then-is_of : goal.returns-then-is_of
returns-then-is_of c =
    let k = subst (λ (o : Option ℕ). Seeks (row c.self.inside.index.lists c.bucket_of-bucket.result) c.self.inside.cells.items c.args.owner c.args.serial o) c.in-Some.is c.loop-cursor.invariant in
    seeks_found c.self.inside c.args.self.now c.bucket_of-bucket.result c.args.owner c.args.serial c.in-Some.number c.self.view_is c.self.invariant k (sym c.is_of.ensures ∙ c.if-is_of.true)

pub next-cursor-requires : goal.next-cursor-requires
next-cursor-requires c =
    let k = subst (λ (o : Option ℕ). Seeks (row c.self.inside.index.lists c.bucket_of-bucket.result) c.self.inside.cells.items c.args.owner c.args.serial o) c.in-Some.is c.loop-cursor.invariant in
    record { bucket = c.bucket_of-bucket.result; held = seeks_held (row c.self.inside.index.lists c.bucket_of-bucket.result) c.self.inside.cells.items c.args.owner c.args.serial c.in-Some.number k }

pub loop-cursor-smaller : goal.loop-cursor-smaller
loop-cursor-smaller c =
    let k = subst (λ (o : Option ℕ). Seeks (row c.self.inside.index.lists c.bucket_of-bucket.result) c.self.inside.cells.items c.args.owner c.args.serial o) c.in-Some.is c.loop-cursor.invariant in
    subst (λ (o : Option ℕ). length (left (row c.self.inside.index.lists c.bucket_of-bucket.result) c.next-cursor.result) < length (left (row c.self.inside.index.lists c.bucket_of-bucket.result) o)) (sym c.in-Some.is)
    (seeks_on c.self.inside c.args.self.now c.bucket_of-bucket.result c.args.owner c.args.serial c.in-Some.number c.next-cursor.result c.self.view_is c.self.invariant k
    (sym c.is_of.ensures ∙ c.if-is_of.false) (c.soundness.ensures.once c.bucket_of-bucket.result) (c.next-cursor.ensures c.bucket_of-bucket.result)).less

pub loop-cursor-preserved : goal.loop-cursor-preserved
loop-cursor-preserved c =
    let k = subst (λ (o : Option ℕ). Seeks (row c.self.inside.index.lists c.bucket_of-bucket.result) c.self.inside.cells.items c.args.owner c.args.serial o) c.in-Some.is c.loop-cursor.invariant in
    (seeks_on c.self.inside c.args.self.now c.bucket_of-bucket.result c.args.owner c.args.serial c.in-Some.number c.next-cursor.result c.self.view_is c.self.invariant k
    (sym c.is_of.ensures ∙ c.if-is_of.false) (c.soundness.ensures.once c.bucket_of-bucket.result) (c.next-cursor.ensures c.bucket_of-bucket.result)).seeks

pub returns : goal.returns
returns c =
    let none : c.loop-cursor.cursor ≡ None = c.in_default.is in
    let k = subst (λ (o : Option ℕ). Seeks (row c.self.inside.index.lists c.bucket_of-bucket.result) c.self.inside.cells.items c.args.owner c.args.serial o) none c.loop-cursor.invariant in
    seeks_end c.self.inside c.args.self.now c.bucket_of-bucket.result c.args.owner c.args.serial c.self.view_is c.self.invariant (c.bucket_of-bucket.ensures.is ∙ ap (λ (m : ℕ). bucket_of c.self.inside.key m c.args.owner c.args.serial) c.buckets.ensures) k
