use Rattle.std.proofs.Common.{subst}
use Rattle.tg_sharing.specs.Inner.Marking.{IsBridge}
use Rattle.tg_sharing.specs.declared.marks.BridgeWay.{BridgeWay}
use Rattle.tg_sharing.specs.declared.marks.BridgeWay.TheVariants as bridge
use Rattle.tg_sharing.proofs.GrowingLemmas.{Continues-trans, Keeps-trans, draws_gained, keeps_holds, take_later}
use Rattle.tg_sharing.proofs.builder.Derivation.carry.Goals as goal

pub gain_take-requires-clause-held : goal.gain_take-requires-clause-held
gain_take-requires-clause-held c =
    let W = c.loop-bridge.self.graph in
    let reaching : IsBridge c.args.graph.now c.args.marks.now c.loop-bridge.at c.loop-bridge.bridge.rank (bridge.Reaching c.in-Reaching.next) =
    subst (λ (w : BridgeWay). IsBridge c.args.graph.now c.args.marks.now c.loop-bridge.at c.loop-bridge.bridge.rank w) c.in-Reaching.is (c.requires.marks.bridges c.loop-bridge.at c.loop-bridge.bridge c.loop-bridge.invariant.bridge).0 in
    take_later c.args.graph.now W (Keeps-trans c.args.graph.now c.args.self.now.graph W c.requires.keeps c.loop-bridge.invariant.continues.keeps) c.loop-bridge.at c.in-Reaching.next reaching.0

pub loop-bridge-preserved-in-Reaching : goal.loop-bridge-preserved-in-Reaching
loop-bridge-preserved-in-Reaching c =
    let V = c.loop-bridge.self in
    let W = c.gain_take.new.self in
    let step = c.in_ok-gain_take-in-Reaching.ensures in
    record {
      continues = Continues-trans c.args.self.now V W c.loop-bridge.invariant.continues step.continues;
      bridge = c.bridge_at-in-Reaching.ensures;
      holder = c.loop-bridge.invariant.holder;
      draws = draws_gained W.graph c.loop-bridge.holder c.in-Reaching.next step.gained;
      held = keeps_holds V.graph W.graph step.continues.keeps c.loop-bridge.holder c.args.load.now.rights c.args.load.now.over c.loop-bridge.invariant.held;
    }
