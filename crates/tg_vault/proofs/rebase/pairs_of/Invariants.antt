use Rattle.std.proofs.Common.{◌≡◌, take}
use Rattle.tg_graph.specs.Inner.Parts.{members_of}
use Rattle.tg_vault.proofs.rebase.pairs_of.Given as goal

abbrev pub invariant-loop-member : goal.invariant-loop-member
invariant-loop-member l = members_of l.found.items ≡ take l.member-index l.members
