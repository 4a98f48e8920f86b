use Rattle.std.proofs.Common.{◌≡◌, ◌≤◌, ℕ, List, true, sym, ap, ◌∙◌, subst, ◌+◌, length, arith}
use Rattle.std.specs.FinMap as map
use Rattle.std.specs.FinSet as set
use Rattle.std.specs.List.{list_all}
use Rattle.std.specs.Ordering.{nat_cmp}
use Rattle.tg_rights.specs.declared.kind.Kind.TheVariants as kind
use Rattle.tg_rights.specs.declared.limits.TheConstants.{MAX_PRINCIPALS}
use Rattle.tg_rights.specs.Promise.Name.{is_name}
use Rattle.tg_graph.specs.Promise.Protection.{Protection, IsGraph}
use Rattle.tg_graph.specs.Promise.Opening.{first_members, principal_count, subjects}
use Rattle.tg_graph.specs.Inner.Views.{protection_of}
use Rattle.tg_graph.proofs.VertexLemmas.{insert-shown}
use Rattle.tg_graph.proofs.OpeningLemmas.{is_small, names-sound, opened-IsGraph, opened-IsRoll, principals-few, subjects-next, no_triples}
use Rattle.tg_graph.proofs.graph.Graph.with_principals.Goals as goal

pub of_names-requires : goal.of_names-requires
of_names-requires c =
    let are = c.as_slice-principals.ensures.value in
    record {
      known = subst (λ (l : List (List ℕ)). list_all is_name l ≡ true) (sym are) (names-sound c.args.config.now c.requires);
      few = subst (λ (l : List (List ℕ)). length l ≤ MAX_PRINCIPALS) (sym are) (principals-few c.args.config.now c.requires);
    }

pub loop-index-init : goal.loop-index-init
loop-index-init c = ap map.from_entries c.new-vertices.ensures.empty

pub loop-index-preserved : goal.loop-index-preserved
loop-index-preserved c =
    insert-shown _ _ (c.loop-index.index + 1) (record { kind = kind.Subject; text = c.empty.result }) c.in_ok-insert.ensures.updates.0
    ∙ (λ i. map.insert (c.loop-index.invariant i) (c.loop-index.index + 1) (record { kind = kind.Subject; text = c.empty.ensures i }))
    ∙ subjects-next c.loop-index.index

abbrev opened : goal.After-new-retired → Protection
opened c = record {
  vertices = subjects (principal_count c.args.config.now);
  next = c.args.config.now.next;
  triples = set.empty;
  names = first_members 1 c.args.config.now.principals.items;
  retired = set.empty;
}

shown : (c : goal.After-new-retired) → protection_of c.loop-index.vertices.entries c.new-labels.result.entries c.args.config.now.next c.in_ok-roll.roll c.new-retired.result.keys ≡ opened c
shown c =
    let are = c.as_slice-principals.ensures.value in
    let many : length c.as_slice-principals.result.now ≡ principal_count c.args.config.now = ap length are in
    let last : c.loop-index.index ≡ principal_count c.args.config.now = omega (arith, many) in
    λ i. record {
      vertices = (c.loop-index.invariant ∙ ap subjects last) i;
      next = c.args.config.now.next;
      triples = no_triples c.new-labels.result.entries c.new-labels.ensures.empty i;
      names = (c.in_ok-roll.ensures ∙ ap (first_members 1) are) i;
      retired = ap (set.from_list {R = nat_cmp}) c.new-retired.ensures.empty i;
    }

pub invariant_of-result : goal.invariant_of-result
invariant_of-result c =
    let config = c.args.config.now in
    subst IsGraph (sym (shown c))
    (opened-IsGraph (principal_count config) config.next (first_members 1 config.principals.items) (is_small config c.requires) (opened-IsRoll config c.requires))

pub returns : goal.returns
returns c = shown c
