use Rattle.std.proofs.Common.{rules, tests}
use Rattle.std.specs.BTreeMap as tree
use Rattle.std.proofs.lemmas.Iterator.{YieldsList-from_map, YieldsList-from_slice}
use Rattle.std.proofs.lemmas.Iterator.Adapters.{fact_from_collect}
use Rattle.std.proofs.lemmas.Iterator.Consumers.{YieldsList-at}
use Rattle.std.proofs.lemmas.Result.{IfOk-weaker}
use Rattle.tg_graph.specs.Promise.Views.{pair_cmp}
use Rattle.tg_graph.specs.Inner.Parts.{label_entry}
use Rattle.tg_graph.proofs.PartsLemmas.{labels_collected}
use Rattle.tg_graph.proofs.parts.labels_of.Goals as goal

pub returns : goal.returns
returns c =
    let listed = c.args.listed.now in
    IfOk-weaker c.collect.result _ _ (λ n made. labels_collected listed n c.requires made)
    (fact_from_collect (tree.IsFromIterResult pair_cmp) c.collect.result c.collect.ensures.ran
    (YieldsList-from_map _ label_entry (YieldsList-at c.map.ensures.source (YieldsList-from_slice listed c.iter.ensures.rest)) c.map.ensures.closure (λ x r q k. search (rules, tests))))
