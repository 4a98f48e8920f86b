use Rattle.std.proofs.Common.{Bool, subst}
use Rattle.tg_rights.specs.Promise.Letters.{grant}
use Rattle.tg_sharing.specs.Inner.Fetching.{IsAtEnd}
use Rattle.tg_graph.specs.Promise.EachCommand.{HasOver}
use Rattle.tg_sharing.proofs.GrowingLemmas.{grant_later, keeps_holds}
use Rattle.tg_sharing.proofs.builder.Derivation.hand_over.Goals as goal

pub gain_grant-requires-clause-held : goal.gain_grant-requires-clause-held
gain_grant-requires-clause-held c =
    let G = c.args.graph.now in
    let m = c.args.marks.now in
    let edge : HasOver G c.args.end.at grant m.from = subst (λ (b : Bool). IsAtEnd G m c.args.end.at b) c.if-end.false c.requires.brought.at_end in
    grant_later G c.args.self.now.graph c.requires.keeps c.args.end.at m.from edge

pub give-requires-clause-held : goal.give-requires-clause-held
give-requires-clause-held c =
    keeps_holds c.args.self.now.graph c.gain_grant.new.self.graph c.in_ok-gain_grant.ensures.continues.keeps c.args.end.holder c.args.load.now.rights c.args.load.now.over c.requires.brought.held
