use Rattle.std.proofs.Common.{ℕ, Bool, rules, sym, ◌∙◌, filter}
use Rattle.std.specs.Cmp.{nat_cmp_total}
use Rattle.std.specs.FinSet as set
use Rattle.std.specs.List.{list_any}
use Rattle.std.specs.Ordering.{eq_by_cmp, nat_cmp}
use Rattle.std.proofs.lemmas.Fn.{filter_same}
use Rattle.tg_vault.proofs.rebase.retired_among.Goals as goal

pub returns : goal.returns
returns c =
    let keys = c.args.retired.now.keys in
    let test : ℕ → Bool = λ x. list_any (eq_by_cmp nat_cmp x) keys in
    filter_same _ test _ (λ x b f' k. search rules) _ _ c.retain.ensures.filtered ∙ (λ i. filter (λ x. sym (set.contains-from_list nat_cmp_total keys x) i) (c.in_ok-found.ensures i))
