use Rattle.std.proofs.Common.{ap, ◌∙◌, subst, sym, List, ℕ}
use Rattle.std.specs.Prelude.{filter_map}
use Rattle.std.specs.List.{list_any}
use Rattle.tg_sharing.specs.Inner.Lookups.{holder_of, is_unknown}
use Rattle.tg_sharing.specs.Promise.Prospects.{AreCould}
use Rattle.tg_sharing.specs.declared.prospect.Could.{Could}
use Rattle.tg_sharing.proofs.LookupLemmas.{holders_listed, unknown_runs_out}
use Rattle.tg_sharing.proofs.lookup.every_holder.Goals as goal

pub returns-then-has_unknown : goal.returns-then-has_unknown
returns-then-has_unknown c =
    unknown_runs_out c.args.graph.now c.soundness.ensures c.withheld_for_ever.ensures c.args.rights c.args.to c.requires.some c.requires.to c.in_ok-ends.ends.keys c.deref.result.now c.in_ok-ends.ensures
    (c.deref.ensures.value ∙ c.in_ok-asked.ensures) c.in_ok-found.found.items c.in_ok-found.ensures
    (ap (list_any (λ (p : ℕ × Could). is_unknown p.1)) (sym c.deref-2.ensures.value) ∙ sym c.has_unknown.ensures ∙ c.if-has_unknown.true)

pub returns : goal.returns
returns c =
    holders_listed c.args.graph.now c.soundness.ensures c.withheld_for_ever.ensures c.args.rights c.args.to c.requires.some c.requires.to c.in_ok-ends.ends.keys c.deref.result.now c.in_ok-ends.ensures
    (c.deref.ensures.value ∙ c.in_ok-asked.ensures) c.in_ok-found.found.items c.in_ok-found.ensures
    (ap (list_any (λ (p : ℕ × Could). is_unknown p.1)) (sym c.deref-2.ensures.value) ∙ sym c.has_unknown.ensures ∙ c.if-has_unknown.false) _
    (c.in_ok-holders.ensures ∙ ap (filter_map (λ (p : ℕ × Could). holder_of c.args.graph.now c.args.rights c.args.to p.0 p.1)) c.deref-3.ensures.value)
