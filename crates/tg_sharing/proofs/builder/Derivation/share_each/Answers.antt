use Rattle.std.proofs.Common.{◌≡◌, true}
use Rattle.tg_rights.specs.Promise.Letters.{Right, read, write, take, grant, includes, read_alone, write_alone, take_alone, grant_alone}
use Rattle.tg_sharing.specs.Promise.Fetching.{alone}
use Rattle.tg_sharing.specs.Inner.Growing.{KeepsAll}
use Rattle.tg_sharing.specs.Inner.Paths.{Holds}
use Rattle.tg_sharing.proofs.GrowingLemmas.{Keeps-trans, keeps_holds}
use Rattle.tg_sharing.proofs.SharingLemmas.{one_found}
use Rattle.tg_sharing.proofs.builder.Derivation.share_each.Goals as goal

pub returns-clause-found : goal.returns-clause-found
returns-clause-found c = each where
  to_fourth : KeepsAll c.share-3.new.self.graph c.share-4.new.self.graph
  to_fourth = c.in_ok-share-4.ensures.continues.keeps

  to_third : KeepsAll c.share-2.new.self.graph c.share-4.new.self.graph
  to_third = Keeps-trans c.share-2.new.self.graph c.share-3.new.self.graph c.share-4.new.self.graph c.in_ok-share-3.ensures.continues.keeps c.in_ok-share-4.ensures.continues.keeps

  to_second : KeepsAll c.share.new.self.graph c.share-4.new.self.graph
  to_second = Keeps-trans c.share.new.self.graph c.share-2.new.self.graph c.share-4.new.self.graph c.in_ok-share-2.ensures.continues.keeps to_third

  each : (r : Right) → includes c.args.goal.now.rights (alone r) ≡ true → Holds c.share-4.new.self.graph c.args.goal.now.from (alone r) c.args.goal.now.to
  each read h = keeps_holds c.share.new.self.graph c.share-4.new.self.graph to_second c.args.goal.now.from read_alone c.args.goal.now.to
      (one_found c.args.graph.now c.share.new.self.graph c.args.marks.now c.read.result read_alone c.args.goal.now c.in_ok-share.field-0 c.in_ok-share.ensures.found c.in-Here.is c.read.ensures h)
  each write h = keeps_holds c.share-2.new.self.graph c.share-4.new.self.graph to_third c.args.goal.now.from write_alone c.args.goal.now.to
      (one_found c.args.graph.now c.share-2.new.self.graph c.args.marks.now c.write.result write_alone c.args.goal.now c.in_ok-share-2.field-0 c.in_ok-share-2.ensures.found c.in-Here-2.is c.write.ensures h)
  each take h = keeps_holds c.share-3.new.self.graph c.share-4.new.self.graph to_fourth c.args.goal.now.from take_alone c.args.goal.now.to
      (one_found c.args.graph.now c.share-3.new.self.graph c.args.marks.now c.take.result take_alone c.args.goal.now c.in_ok-share-3.field-0 c.in_ok-share-3.ensures.found c.in-Here-3.is c.take.ensures h)
  each grant h =
      one_found c.args.graph.now c.share-4.new.self.graph c.args.marks.now c.grant.result grant_alone c.args.goal.now c.in_ok-share-4.field-0 c.in_ok-share-4.ensures.found c.in-Here-4.is c.grant.ensures h
