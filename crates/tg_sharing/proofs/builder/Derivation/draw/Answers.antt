use Rattle.std.proofs.Common.{◌∷◌, List, ℕ, subst, sym, ap, ◌∙◌}
use Rattle.tg_rights.specs.Promise.Letters.{Letters, take_alone}
use Rattle.tg_sharing.specs.Inner.Paths.{Holds, TakePath, path_end}
use Rattle.tg_sharing.proofs.GrowingLemmas.{Continues-trans, Keeps-trans, draws_gained, keeps_holds}
use Rattle.tg_sharing.proofs.builder.Derivation.draw.Goals as goal

pub gain-requires-clause-held : goal.gain-requires-clause-held
gain-requires-clause-held c =
    let G = c.args.graph.now in
    let W = c.loop-next.self.graph in
    let path : TakePath G c.loop-next.at (c.in-Some.next ∷ c.pop_front.new.self.items) = subst (λ (l : List ℕ). TakePath G c.loop-next.at l) c.in-Some.ensures.items c.loop-next.invariant.rest in
    subst (λ (α : Letters). Holds W c.loop-next.at α c.in-Some.next) (sym c.take.ensures)
    (keeps_holds G W (Keeps-trans G c.args.self.now.graph W c.requires.keeps c.loop-next.invariant.continues.keeps) c.loop-next.at take_alone c.in-Some.next path.0)

pub loop-next-preserved : goal.loop-next-preserved
loop-next-preserved c =
    let G = c.args.graph.now in
    let path : TakePath G c.loop-next.at (c.in-Some.next ∷ c.pop_front.new.self.items) = subst (λ (l : List ℕ). TakePath G c.loop-next.at l) c.in-Some.ensures.items c.loop-next.invariant.rest in
    record {
      continues = Continues-trans c.args.self.now c.loop-next.self c.gain.new.self c.loop-next.invariant.continues c.in_ok-gain.ensures.continues;
      drawn = draws_gained c.gain.new.self.graph c.args.actor c.in-Some.next
          (λ apart. subst (λ (α : Letters). Holds c.gain.new.self.graph c.args.actor α c.in-Some.next) c.take.ensures (c.in_ok-gain.ensures.gained apart));
      rest = path.1;
      ends = ap (path_end c.loop-next.at) (sym c.in-Some.ensures.items) ∙ c.loop-next.invariant.ends;
    }
