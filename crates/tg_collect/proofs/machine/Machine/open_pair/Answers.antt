use Rattle.std.proofs.Common.{◌∙◌, sym}
use Rattle.tg_collect.proofs.OpeningEdges.{owner_there, target_there, pair_empty, pair_none, pair_room, pair_opened}
use Rattle.tg_collect.proofs.machine.Machine.open_pair.Goals as goal

pub add_edge-requires : goal.add_edge-requires
add_edge-requires c =
    let m = c.args.self.now in
    let some = sym c.if-not-is_empty.ensures in
    record {
      owner = owner_there m c.args.graph.now c.args.from c.args.to c.rights-rights.result c.requires.opens c.requires.from c.requires.to c.rights-rights.ensures;
      target = target_there m c.args.graph.now c.args.from c.args.to c.rights-rights.result c.requires.opens c.requires.from c.requires.to c.rights-rights.ensures;
      some = some;
      none = pair_none m c.args.graph.now c.args.from c.args.to c.rights-rights.result c.requires.opens c.requires.from c.requires.to c.rights-rights.ensures some c.soundness.ensures.sound;
      room = pair_room m c.args.graph.now c.args.from c.args.to c.rights-rights.result c.requires.opens c.requires.from c.requires.to c.rights-rights.ensures some c.soundness.ensures.sound;
    }

pub returns-then-not-is_empty-clause-opens : goal.returns-then-not-is_empty-clause-opens
returns-then-not-is_empty-clause-opens c = pair_opened c.args.self.now c.args.graph.now c.args.from c.args.to c.rights-rights.result c.requires.opens c.requires.from c.requires.to c.rights-rights.ensures (sym c.if-not-is_empty.ensures) c.soundness.ensures.sound
    c.add_edge.new.self c.soundness-then-not-is_empty.ensures.sound c.add_edge.ensures

pub returns-else-not-is_empty-clause-opens : goal.returns-else-not-is_empty-clause-opens
returns-else-not-is_empty-clause-opens c = pair_empty c.args.self.now c.args.graph.now c.args.from c.args.to c.rights-rights.result c.requires.opens c.requires.from c.requires.to c.rights-rights.ensures (sym c.is_empty.ensures ∙ c.if-not-is_empty.false)
