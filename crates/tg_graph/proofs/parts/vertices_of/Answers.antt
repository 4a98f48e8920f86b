use Rattle.std.proofs.Common.{rules, tests}
use Rattle.std.specs.BTreeMap as tree
use Rattle.std.specs.Ordering.{nat_cmp}
use Rattle.std.proofs.lemmas.Iterator.{YieldsList-from_map}
use Rattle.std.proofs.lemmas.Iterator.Adapters.{YieldsList-from_vec, fact_from_collect}
use Rattle.std.proofs.lemmas.Iterator.Consumers.{YieldsList-at}
use Rattle.std.proofs.lemmas.Result.{IfOk-weaker}
use Rattle.tg_graph.specs.Inner.Parts.{vertex_entry}
use Rattle.tg_graph.proofs.PartsLemmas.{vertices_collected}
use Rattle.tg_graph.proofs.parts.vertices_of.Goals as goal

pub returns : goal.returns
returns c =
    let listed = c.args.listed.items in
    IfOk-weaker c.collect.result _ _ (λ n made. vertices_collected listed n c.requires made)
    (fact_from_collect (tree.IsFromIterResult nat_cmp) c.collect.result c.collect.ensures.ran
    (YieldsList-from_map _ vertex_entry (YieldsList-at c.map.ensures.source (YieldsList-from_vec listed c.into_iter.ensures.rest (search rules))) c.map.ensures.closure (λ x r q k. search (rules, tests))))
