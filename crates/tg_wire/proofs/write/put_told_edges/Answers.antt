use Rattle.serde_json.specs.Data.{array}
use Rattle.serde_json.specs.Written.{compact_text}
use Rattle.tg_wire.specs.Promise.Replies.{edges_data}
use Rattle.tg_wire.proofs.EdgesLemmas.{told_edges}
use Rattle.tg_wire.proofs.write.put_told_edges.Goals as goal

pub returns : goal.returns
returns c =
    told_edges c.extend_from_slice-2.result c.args.line.now.items (compact_text (array (edges_data c.args.edges.now))) c.extend_from_slice.new.self.items c.put_edges.new.line.items c.extend_from_slice-2.new.self.items
    c.in_ok-extend_from_slice.ensures.items c.in_ok-put_edges.ensures c.extend_from_slice-2.ensures.items
