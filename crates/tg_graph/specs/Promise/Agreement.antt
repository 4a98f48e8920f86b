-- what a command leaves of agreement: the same replies, and graphs that subjects still cannot tell apart
use Rattle.std.specs.Prelude.{◌≡◌, ℕ, true}
use Rattle.std.specs.Ordering.{nat_cmp}
use Rattle.std.specs.FinSet as set
use Rattle.tg_rights.specs.declared.command.Command.{Command}
use Rattle.tg_rights.specs.declared.outcome.Reply.{Reply}
use Rattle.tg_rights.specs.declared.outcome.Reply.TheVariants as reply
use Rattle.tg_graph.specs.Promise.Protection.{Protection, IsGraph, Agree}
use Rattle.tg_graph.specs.Promise.Rules.{Applies}

-- the same reply, but for a new vertex's serial and for fullness
abbrev pub SameReply : Reply → Reply → Type 0
SameReply (reply.Created n) (reply.Created m) = Unit {0}
SameReply (reply.Created n) (reply.Full w) = Unit {0}
SameReply (reply.Full w) (reply.Created m) = Unit {0}
SameReply (reply.Full w) (reply.Full v) = Unit {0}
SameReply a b = a ≡ b

-- in each graph that agrees for x the command has the same reply, a new vertex's serial and fullness aside
abbrev pub IsRepliedAlike : Protection → ℕ → Command → Reply → Type 0
IsRepliedAlike G x c answer = (H L : Protection) (other : Reply) → IsGraph H → Agree G H x → Applies H x c other L → SameReply answer other

-- graphs with the same next serial that agree with G for some subjects, x among them, agree for these with what
-- the command makes of G, have the same next serial and the same reply
abbrev pub KeepsViewers : Protection → ℕ → Command → Reply → Protection → Type 0
KeepsViewers G x c answer K =
    (H L : Protection) (other : Reply) (viewers : set.FinSet nat_cmp) → IsGraph H → G.next ≡ H.next → set.contains viewers x ≡ true →
    ((v : ℕ) → set.contains viewers v ≡ true → Agree G H v) → Applies H x c other L →
    (answer ≡ other) × (K.next ≡ L.next) × ((v : ℕ) → set.contains viewers v ≡ true → Agree K L v)
