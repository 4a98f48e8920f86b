use Rattle.tg_sharing.proofs.GrowingLemmas.{Keeps-trans, keeps_holds}
use Rattle.tg_sharing.proofs.builder.Derivation.derive.Goals as goal

pub gain-requires-clause-held : goal.gain-requires-clause-held
gain-requires-clause-held c =
    let G = c.args.graph.now in
    let V = c.draw_to.new.self.graph in
    keeps_holds G V (Keeps-trans G c.args.self.now.graph V c.requires.source.keeps c.in_ok-root.ensures.continues.keeps) c.args.source c.args.rights c.args.goal.now.to c.requires.source.held
