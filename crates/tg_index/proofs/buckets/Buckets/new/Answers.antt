use Rattle.std.proofs.Common.{◌∙◌, ℕ, List, [], refl, ap, length}
use Rattle.std.proofs.lemmas.List.{length-replicate}
use Rattle.tg_index.specs.Promise.Rows.{Rows, row}
use Rattle.tg_lists.proofs.NestedLemmas.{empty_at}
use Rattle.tg_index.proofs.StepLemmas.{leaves-new}
use Rattle.tg_index.proofs.buckets.Buckets.new.Goals as goal

pub invariant_of-result : goal.invariant_of-result
invariant_of-result c =
    (leaves-new (record { heads = c.in_ok-heads.heads; links = c.in_ok-links.links; size = c.args.size }) c.args.buckets (c.in_ok-heads.ensures.items_if_clones_equal (λ y e. e)) c.in_ok-links.ensures.items c.in_ok-links.ensures.capacity).kept

pub returns : goal.returns
returns c =
    let shows = (leaves-new (record { heads = c.in_ok-heads.heads; links = c.in_ok-links.links; size = c.args.size }) c.args.buckets (c.in_ok-heads.ensures.items_if_clones_equal (λ y e. e)) c.in_ok-links.ensures.items c.in_ok-links.ensures.capacity).shows in (
      ap (λ (v : Rows). length v.lists) shows ∙ length-replicate {A = List ℕ} c.args.buckets [],
      ap (λ (v : Rows). v.used) shows,
      refl,
      λ b. ap (λ (v : Rows). row v.lists b) shows ∙ empty_at {X = ℕ} c.args.buckets b,
    )
