use Rattle.std.proofs.Common.{◌≡◌, ◌++◌, ◌-◌, ◌≤◌, drop, length, nat_lt}
use Rattle.serde_json.specs.Data.{array}
use Rattle.serde_json.specs.Written.{compact_text, items_text}
use Rattle.tg_wire.specs.Promise.Replies.{edges_data}
use Rattle.tg_wire.proofs.edges.put_edges.Given as goal

-- what is written and the edges that are left are all of them
abbrev pub invariant-loop-at : goal.invariant-loop-at
invariant-loop-at l =
    (l.at ≤ length l.edges) × (l.line.items ++ items_text (nat_lt 0 l.at) (edges_data (drop l.at l.edges)) ≡ l.fn.line.items ++ compact_text (array (edges_data l.edges)))

abbrev pub decreases-loop-at : goal.decreases-loop-at
decreases-loop-at l = length l.edges - l.at
