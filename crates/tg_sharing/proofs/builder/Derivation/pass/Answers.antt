use Rattle.tg_sharing.proofs.GrowingLemmas.{keeps_holds}
use Rattle.tg_sharing.proofs.builder.Derivation.pass.Goals as goal

pub gain-requires-clause-held : goal.gain-requires-clause-held
gain-requires-clause-held c = keeps_holds c.args.graph.now c.args.self.now.graph c.requires.source.keeps c.args.source c.args.rights c.args.goal.now.to c.requires.source.held
