use Rattle.std.proofs.Common.{◌≡◌, ◌≤◌, ◌∙◌, ◌-◌, ◌∷◌, ◌+◌, ℕ, ap, set, refl, cond, ltb, min, length, arith}
use Rattle.std.specs.Vec.{with_item}
use Rattle.tg_cells.specs.Promise.Lists.{owned}
use Rattle.tg_cells.specs.Inner.Index.{bucket_of}
use Rattle.tg_cells.specs.Inner.Inside.{place_in}
use Rattle.tg_cells.proofs.InsideLemmas.{agrees, used_fits}
use Rattle.tg_cells.proofs.StepLemmas.{found, full, links}
use Rattle.tg_cells.proofs.IndexLemmas.{stays, index_seen, indexes-link, fresh_unheld}
use Rattle.tg_cells.proofs.cells.Cells.link.Goals as goal

pub overflow_sub-self : goal.overflow_sub-self
overflow_sub-self c =
    let at : c.min-number.result ≡ min c.self.inside.free (length c.self.inside.cells.items) = c.min-number.ensures ∙ ap (λ (m : ℕ). min c.self.inside.free m) c.len.ensures in
    let some = (found c.self.inside c.args.self.now c.self.view_is c.self.invariant.inside c.min-number.result _ at c.if-number-end.false refl).some in
    let count = (agrees c.self.inside c.args.self.now c.self.view_is c.self.invariant.inside).count in
    omega arith

pub overflow_cast-len : goal.overflow_cast-len
overflow_cast-len c = let used = used_fits c.self.inside c.args.self.now c.self.view_is c.self.invariant.inside in let most = c.self.invariant.inside.most in omega arith

pub returns-then-number-end : goal.returns-then-number-end
returns-then-number-end c =
    let at : c.min-number.result ≡ min c.self.inside.free (length c.self.inside.cells.items) = c.min-number.ensures ∙ ap (λ (m : ℕ). min c.self.inside.free m) c.len.ensures in
    (full c.self.inside c.args.self.now c.self.view_is c.self.invariant.inside c.min-number.result at c.if-number-end.true, refl)

pub put-requires-clause-unheld : goal.put-requires-clause-unheld
put-requires-clause-unheld c =
    let at : c.min-number.result ≡ min c.self.inside.free (length c.self.inside.cells.items) = c.min-number.ensures ∙ ap (λ (m : ℕ). min c.self.inside.free m) c.len.ensures in
    let room : c.self.inside.size ≤ c.write.new.self.room = (let wide = c.write.ensures.room in let old = c.self.invariant.inside.room in omega arith) in
    let done = links c.self.inside c.args.self.now c.self.view_is c.self.invariant.inside c.write.new.self c.set_previous.new.self c.self.inside.index c.args.owner c.min-number.result c.free_after-self-inside.result
    (record { owner = c.args.owner; previous = c.self.inside.size; next = c.index-head.result.now; target = c.args.target; serial = c.args.serial; rights = c.args.rights }) c.requires.owner c.requires.none c.requires.some
    at c.if-number-end.false c.free_after-self-inside.ensures refl refl c.index-head.ensures room c.write.ensures.items c.set_previous.ensures in
    let x = index_seen c.self.inside c.args.self.now c.self.view_is c.self.invariant in
    fresh_unheld (place_in c.self.inside) c.self.inside.index.lists c.args.self.now.lists c.min-number.result x.edges done.fresh

pub invariant_of-self : goal.invariant_of-self
invariant_of-self c =
    let at : c.min-number.result ≡ min c.self.inside.free (length c.self.inside.cells.items) = c.min-number.ensures ∙ ap (λ (m : ℕ). min c.self.inside.free m) c.len.ensures in
    let room : c.self.inside.size ≤ c.write.new.self.room = (let wide = c.write.ensures.room in let old = c.self.invariant.inside.room in omega arith) in
    let done = links c.self.inside c.args.self.now c.self.view_is c.self.invariant.inside c.write.new.self c.set_previous.new.self c.put.new.self c.args.owner c.min-number.result c.free_after-self-inside.result
    (record { owner = c.args.owner; previous = c.self.inside.size; next = c.index-head.result.now; target = c.args.target; serial = c.args.serial; rights = c.args.rights }) c.requires.owner c.requires.none c.requires.some
    at c.if-number-end.false c.free_after-self-inside.ensures refl refl c.index-head.ensures room c.write.ensures.items c.set_previous.ensures in
    let x = index_seen c.self.inside c.args.self.now c.self.view_is c.self.invariant in
    let place : c.bucket_of-bucket.result ≡ place_in c.self.inside c.args.owner c.args.serial = c.bucket_of-bucket.ensures.is ∙ ap (λ (m : ℕ). bucket_of c.self.inside.key m c.args.owner c.args.serial) c.buckets.ensures in
    let inside = c.bucket_of-bucket.ensures.within in
    let buckets = c.buckets.ensures in
    (stays (record { cells = c.set_previous.new.self; heads = with_item c.self.inside.heads c.args.owner c.min-number.result; free = c.free_after-self-inside.result; free_count = c.self.inside.free_count - 1; size = c.self.inside.size; index = c.put.new.self; key = c.self.inside.key })
    (record c.args.self.now { lists = set c.args.self.now.lists c.args.owner ((record { cell = c.min-number.result; target = c.args.target; serial = c.args.serial; rights = c.args.rights }) ∷ owned c.args.self.now.lists c.args.owner); free = c.self.inside.free_count - 1 }) (record { kept = done.kept; shows = done.shows })
    (indexes-link c.self.inside (record { cells = c.set_previous.new.self; heads = with_item c.self.inside.heads c.args.owner c.min-number.result; free = c.free_after-self-inside.result; free_count = c.self.inside.free_count - 1; size = c.self.inside.size; index = c.put.new.self; key = c.self.inside.key }) c.args.self.now.lists c.args.owner c.bucket_of-bucket.result
    (record { cell = c.min-number.result; target = c.args.target; serial = c.args.serial; rights = c.args.rights }) x c.requires.owner place (omega arith) c.put.ensures refl (ap (λ (m : ℕ). cond (ltb c.min-number.result m) m (m + 1)) x.used ∙ done.grows) refl)).kept

pub returns : goal.returns
returns c =
    let at : c.min-number.result ≡ min c.self.inside.free (length c.self.inside.cells.items) = c.min-number.ensures ∙ ap (λ (m : ℕ). min c.self.inside.free m) c.len.ensures in
    let room : c.self.inside.size ≤ c.write.new.self.room = (let wide = c.write.ensures.room in let old = c.self.invariant.inside.room in omega arith) in
    let done = links c.self.inside c.args.self.now c.self.view_is c.self.invariant.inside c.write.new.self c.set_previous.new.self c.put.new.self c.args.owner c.min-number.result c.free_after-self-inside.result
    (record { owner = c.args.owner; previous = c.self.inside.size; next = c.index-head.result.now; target = c.args.target; serial = c.args.serial; rights = c.args.rights }) c.requires.owner c.requires.none c.requires.some
    at c.if-number-end.false c.free_after-self-inside.ensures refl refl c.index-head.ensures room c.write.ensures.items c.set_previous.ensures in
    (record { cell = c.min-number.result; target = c.args.target; serial = c.args.serial; rights = c.args.rights }, done.fresh, refl, refl, refl, done.fewer, done.shows)
