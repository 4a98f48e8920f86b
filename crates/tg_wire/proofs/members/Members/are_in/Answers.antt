use Rattle.std.proofs.Common.{sym, ◌∙◌, eq-eqb}
use Rattle.tg_wire.proofs.MembersLemmas.{all_in_wider}
use Rattle.tg_wire.proofs.members.Members.are_in.Goals as goal

pub returns-then-self-set : goal.returns-then-self-set
returns-then-self-set c =
    eq-eqb _ _ c.if-self-set.true ∙ sym (all_in_wider c.args.self.now.keys c.args.set c.args.self.now.list.items c.if-self-set.true c.args.self.now.are_in)
