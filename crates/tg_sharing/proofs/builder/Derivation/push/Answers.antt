use Rattle.std.proofs.Common.{◌≡◌, ◌<◌, inr, arith}
use Rattle.std.proofs.lemmas.Option.{MatchOption-at_some}
use Rattle.tg_rights.specs.declared.kind.Kind.TheVariants as kind
use Rattle.tg_graph.specs.Promise.Rules.{last_serial}
use Rattle.tg_sharing.specs.Inner.Growing.{Makes, take_and_grant}
use Rattle.tg_sharing.proofs.GrowingLemmas.{Keeps-trans, both_take, held_low, keeps_draws, keeps_gives, keeps_holds}
use Rattle.tg_sharing.proofs.builder.Derivation.push.Goals as goal

pub give_grant-requires-clause-gives : goal.give_grant-requires-clause-gives
give_grant-requires-clause-gives c = keeps_gives c.args.self.now.graph c.make.new.self.graph c.in_ok-document.ensures.continues.keeps c.args.taker c.args.by c.requires.gives

pub gain_grant-requires-clause-draws : goal.gain_grant-requires-clause-draws
gain_grant-requires-clause-draws c =
    keeps_draws c.args.self.now.graph c.give_grant.new.self.graph
    (Keeps-trans c.args.self.now.graph c.make.new.self.graph c.give_grant.new.self.graph c.in_ok-document.ensures.continues.keeps c.in_ok-give_grant.ensures.continues.keeps)
    c.args.giver c.args.by c.requires.draws

pub give-requires-clause-held : goal.give-requires-clause-held
give-requires-clause-held c =
    let G = c.args.self.now.graph in
    let G1 = c.make.new.self.graph in
    let G2 = c.give_grant.new.self.graph in
    let G3 = c.gain_grant.new.self.graph in
    keeps_holds G G3 (Keeps-trans G G2 G3 (Keeps-trans G G1 G2 c.in_ok-document.ensures.continues.keeps c.in_ok-give_grant.ensures.continues.keeps) c.in_ok-gain_grant.ensures.continues.keeps)
    c.args.giver c.args.load.now.rights c.args.load.now.over c.requires.held

pub give-requires-clause-apart : goal.give-requires-clause-apart
give-requires-clause-apart c =
    let G = c.args.self.now.graph in
    let made = MatchOption-at_some (last_serial < c.make.new.self.graph.next) (Makes c.args.self.now c.make.new.self c.args.taker kind.Document) c.in-Some.document c.in-Some.is c.in_ok-document.ensures.made in
    let fresh : c.in-Some.document ≡ G.next = made.fresh in
    let low : c.args.load.now.over < G.next = held_low G c.soundness.ensures c.args.giver c.args.load.now.rights c.args.load.now.over c.requires.some c.requires.held in
    λ is. absurd (omega (arith, fresh, low, is))

pub gain-requires-clause-draws : goal.gain-requires-clause-draws
gain-requires-clause-draws c =
    let G1 = c.make.new.self.graph in
    let G2 = c.give_grant.new.self.graph in
    let G3 = c.gain_grant.new.self.graph in
    let G4 = c.give.new.self.graph in
    let made = MatchOption-at_some (last_serial < c.make.new.self.graph.next) (Makes c.args.self.now c.make.new.self c.args.taker kind.Document) c.in-Some.document c.in-Some.is c.in_ok-document.ensures.made in
    inr (both_take G4 c.args.taker c.in-Some.document
    (keeps_holds G1 G4 (Keeps-trans G1 G3 G4 (Keeps-trans G1 G2 G3 c.in_ok-give_grant.ensures.continues.keeps c.in_ok-gain_grant.ensures.continues.keeps) c.in_ok-give.ensures.continues.keeps)
    c.args.taker take_and_grant c.in-Some.document made.held))
