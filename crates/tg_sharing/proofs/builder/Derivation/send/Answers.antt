use Rattle.std.proofs.Common.{◌≡◌, ◌<◌, ◌≤◌, refl, subst, sym, arith}
use Rattle.std.proofs.lemmas.Option.{MatchOption-at_some}
use Rattle.tg_rights.specs.Promise.Letters.{Letters}
use Rattle.tg_rights.specs.declared.kind.Kind.TheVariants as kind
use Rattle.tg_graph.specs.Promise.Rules.{last_serial}
use Rattle.tg_sharing.specs.Inner.Growing.{Makes, take_and_grant}
use Rattle.tg_sharing.specs.Inner.Paths.{Holds}
use Rattle.tg_sharing.proofs.GrowingLemmas.{Keeps-trans, held_low, holder_low, keeps_draws, keeps_envoy, keeps_holds}
use Rattle.tg_sharing.proofs.builder.Derivation.send.Goals as goal

pub arm-requires-clause-draws : goal.arm-requires-clause-draws
arm-requires-clause-draws c = keeps_draws c.args.self.now.graph c.make.new.self.graph c.in_ok-envoy.ensures.continues.keeps c.args.first c.args.source c.requires.draws

pub arm-requires-clause-ready : goal.arm-requires-clause-ready
arm-requires-clause-ready c =
    let G = c.args.graph.now in
    let W = c.make.new.self.graph in
    keeps_holds G W (Keeps-trans G c.args.self.now.graph W c.requires.source.keeps c.in_ok-envoy.ensures.continues.keeps) c.args.source c.args.rights c.args.goal.now.to c.requires.source.held

pub arm-requires-clause-source : goal.arm-requires-clause-source
arm-requires-clause-source c = λ is.
    let G = c.args.graph.now in
    let V = c.args.self.now.graph in
    let made = MatchOption-at_some (last_serial < c.make.new.self.graph.next) (Makes c.args.self.now c.make.new.self c.args.first kind.Subject) c.in-Some.envoy c.in-Some.is c.in_ok-envoy.ensures.made in
    let fresh : c.in-Some.envoy ≡ V.next = made.fresh in
    let low : c.args.source < G.next = holder_low G c.soundness.ensures c.args.source c.args.rights c.args.goal.now.to c.requires.source.some c.requires.source.held in
    let kept : G.next ≤ V.next = c.requires.source.keeps.next in
    absurd (omega (arith, fresh, low, kept, is))

pub arm-requires-clause-to : goal.arm-requires-clause-to
arm-requires-clause-to c = λ is.
    let G = c.args.graph.now in
    let V = c.args.self.now.graph in
    let made = MatchOption-at_some (last_serial < c.make.new.self.graph.next) (Makes c.args.self.now c.make.new.self c.args.first kind.Subject) c.in-Some.envoy c.in-Some.is c.in_ok-envoy.ensures.made in
    let fresh : c.in-Some.envoy ≡ V.next = made.fresh in
    let low : c.args.goal.now.to < G.next = held_low G c.soundness.ensures c.args.source c.args.rights c.args.goal.now.to c.requires.source.some c.requires.source.held in
    let kept : G.next ≤ V.next = c.requires.source.keeps.next in
    absurd (omega (arith, fresh, low, kept, is))

pub carry-requires-clause-held : goal.carry-requires-clause-held
carry-requires-clause-held c =
    let made = MatchOption-at_some (last_serial < c.make.new.self.graph.next) (Makes c.args.self.now c.make.new.self c.args.first kind.Subject) c.in-Some.envoy c.in-Some.is c.in_ok-envoy.ensures.made in
    subst (λ (l : Letters). Holds c.arm.new.self.graph c.args.first l c.in-Some.envoy) (sym c.both.ensures)
    (keeps_holds c.make.new.self.graph c.arm.new.self.graph c.in_ok-arm.ensures.continues.keeps c.args.first take_and_grant c.in-Some.envoy made.held)

pub take_over-requires-clause-envoy : goal.take_over-requires-clause-envoy
take_over-requires-clause-envoy c =
    let made = MatchOption-at_some (last_serial < c.make.new.self.graph.next) (Makes c.args.self.now c.make.new.self c.args.first kind.Subject) c.in-Some.envoy c.in-Some.is c.in_ok-envoy.ensures.made in
    keeps_envoy c.arm.new.self.graph c.carry.new.self.graph c.in_ok-end.ensures.continues.keeps c.args.rights c.args.goal.now.to c.in-Some.envoy
    (record { actor = c.in_ok-arm.ensures.continues.keeps.actors c.in-Some.envoy (made.actor refl); ready = c.in_ok-arm.ensures.armed })
