use Rattle.std.proofs.Common.{◌≡◌, ◌++◌, ◌≤◌, ◌∙◌, ap, drop, length, nat_lt, true, arith, rules}
use Rattle.std.proofs.lemmas.Slice.{between_to_end}
use Rattle.serde_json.specs.Written.{items_text}
use Rattle.tg_wire.specs.Promise.Replies.{edges_data}
use Rattle.tg_wire.proofs.EdgesLemmas.{more_written}
use Rattle.tg_wire.proofs.edges.put_edges.Goals as goal

pub loop-at-preserved : goal.loop-at-preserved
loop-at-preserved c =
    let at = c.loop-at.at in
    let edges = c.args.edges.now in
    let end = c.min-end.result in
    let high : end ≤ length edges = omega arith in
    let shown = between_to_end c.edges_before-start.new.room c.edges_before-start.result 960 (omega arith) ∙ c.edges_before-start.ensures.text in
    let put = c.in_ok-extend_from_slice.ensures.items ∙ ap (λ l. c.loop-at.line.items ++ l) shown in
    let more = more_written c.loop-at.line.items c.extend_from_slice.new.self.items (nat_lt 0 at) edges at end (omega arith) high put in
    let later : nat_lt 0 end ≡ true = search rules in
    (high, ap (λ b. c.extend_from_slice.new.self.items ++ items_text b (edges_data (drop end edges))) later ∙ more ∙ c.loop-at.invariant.1)
