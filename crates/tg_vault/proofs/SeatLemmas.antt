-- Targets and agents of the seats after an entry.
use Rattle.std.proofs.Common.{◌≡◌, ◌⊎◌, ℕ, List, Some, None, refl, sym, ap, ◌∙◌, inl, inr}
use Rattle.std.specs.Prelude.{Option}
use Rattle.tg_rights.specs.declared.command.Command.{Command}
use Rattle.tg_rights.specs.declared.command.Command.TheVariants as command
use Rattle.tg_rights.specs.declared.outcome.Outcome.{Outcome}
use Rattle.tg_rights.specs.declared.outcome.Outcome.TheVariants as outcome
use Rattle.tg_graph.specs.Promise.Terms as effect
use Rattle.tg_graph.specs.Promise.Terms.{Does, terms}
use Rattle.tg_vault.specs.Promise.World.{agents_after, at_seat, new_agents, with_pending}
use Rattle.tg_vault.proofs.FoundLemmas.{acts_for}
use Rattle.tg_vault.proofs.PlaceLemmas.{set_seat}

-- an agent was one before, or the command at its seat has made it one
module _ (agents : List (Option ℕ)) (seat x : ℕ) (c : Command) (k y : ℕ) where
  abbrev pub Became : Outcome → Type 0
  Became o = ((k ≡ seat) × (c ≡ command.Assume y) × (o ≡ outcome.Allowed)) ⊎ (at_seat agents k ≡ Some y)

  done_agent : (d : Does) → d ≡ (terms x c).does → at_seat (new_agents agents seat d) k ≡ Some y → Became outcome.Allowed
  done_agent (effect.Acts agent) does at = elim (set_seat agents seat k agent y at) [ inl new ↦ inl (new.0, acts_for x c y (ap (λ a. effect.Acts a) (sym new.1) ∙ does), refl) | inr before ↦ inr before ]
  done_agent _ does at = inr at

  pub agent_after : (o : Outcome) → at_seat (agents_after agents seat x c o) k ≡ Some y → Became o
  agent_after outcome.Allowed at = done_agent (terms x c).does refl at
  agent_after _ at = inr at

-- a pending target was one before, or is the seat's
pub target_after : (pending : List (Option ℕ)) (seat : ℕ) (new : Option ℕ) (k y : ℕ) → at_seat (with_pending pending seat new) k ≡ Some y → (k ≡ seat) ⊎ (at_seat pending k ≡ Some y)
target_after pending seat None k y at = inr at
target_after pending seat (Some target) k y at = elim (set_seat pending seat k (Some target) y at) [ inl new ↦ inl new.0 | inr before ↦ inr before ]
