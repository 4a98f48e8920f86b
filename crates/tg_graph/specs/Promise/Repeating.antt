-- commands whose replies may be known
use Rattle.std.specs.Prelude.{◌≡◌, ◌↔◌, IsTrue, ℕ, Bool, true, false}
use Rattle.tg_rights.specs.declared.command.Command.{Command}
use Rattle.tg_rights.specs.declared.outcome.Reply.{Reply}
use Rattle.tg_graph.specs.Promise.Terms as effect
use Rattle.tg_graph.specs.Promise.Protection.{Protection}
use Rattle.tg_graph.specs.Promise.Rules.{Applies}
use Rattle.tg_graph.specs.Promise.Terms.{Does, terms}

-- the plain graph carries out or refuses a command of x, G becomes H, and this says whether the reply is the one that was
-- told
abbrev pub Repeats : Protection → ℕ → Command → Reply → Bool → Protection → Type 0
Repeats G x c told same H = (answer : Reply) × Applies G x c answer H × (IsTrue same ↔ answer ≡ told)

-- whether carrying it out may need memory, if no reply is made, and the text or the name that it brings is copied
abbrev pub may_store : Does → Bool
may_store (effect.Drops α over) = false
may_store (effect.Acts agent) = false
may_store (effect.Tells over) = false
may_store (effect.Lists at) = false
may_store _ = true

-- a command of x that may need memory to be repeated
abbrev pub takes_room : ℕ → Command → Bool
takes_room x c = may_store (terms x c).does
