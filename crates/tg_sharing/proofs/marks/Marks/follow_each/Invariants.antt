use Rattle.std.proofs.Common.{◌≡◌, ℕ, ◌⊎◌}
use Rattle.std.specs.Map.{keys_of}
use Rattle.tg_lists.specs.Promise.Membership.{Contains}
use Rattle.tg_rights.specs.Promise.Letters.{Letters}
use Rattle.tg_graph.specs.Promise.Protection.{IsEdge, label}
use Rattle.tg_sharing.specs.Inner.Marking.{AreMarks, ArePairClosed, Goes, IsKnown, size}
use Rattle.tg_sharing.proofs.marks.Marks.follow_each.Given as goal

-- each edge is still to be followed, or leads to no mark if none was set
abbrev pub invariant-loop-ends : goal.invariant-loop-ends
invariant-loop-ends l = record {
  goes : Goes l.graph l.fn.self l.self;
  marks : AreMarks l.graph l.self;
  known : IsKnown l.self l.known;
  labels : (e : (ℕ × ℕ) × Letters) → Contains l.ends-iterator e → e.1 ≡ label l.graph e.0.0 e.0.1;
  closed : size l.fn.self ≡ size l.self → (x y : ℕ) → IsEdge l.graph x y → Contains (keys_of l.ends-iterator) (x, y) ⊎ ArePairClosed l.graph l.fn.self x y;
}
