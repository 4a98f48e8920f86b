use Rattle.tg_sharing.proofs.GrowingLemmas.{keeps_holds}
use Rattle.tg_sharing.proofs.builder.Derivation.take_over.Goals as goal

pub gain-requires-clause-held : goal.gain-requires-clause-held
gain-requires-clause-held c = keeps_holds c.args.self.now.graph c.push.new.self.graph c.in_ok-push.ensures.continues.keeps c.args.envoy c.args.rights c.args.goal.now.to c.requires.envoy.ready
