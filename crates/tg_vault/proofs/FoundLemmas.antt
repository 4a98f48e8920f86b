-- A decision has passed each vertex that the effect works on, and has met what the effect takes for granted.
use Rattle.std.proofs.Common.{◌≡◌, ◌≢◌, ℕ, List, Some, false, true, sym, ap, subst, ◌∙◌, inl, inr}
use Rattle.std.specs.Prelude.{Option}
use Rattle.tg_rights.specs.Promise.Letters.{Letters, includes, is_none}
use Rattle.tg_rights.specs.declared.kind.Kind.{Kind}
use Rattle.tg_rights.specs.declared.command.Command.{Command}
use Rattle.tg_rights.specs.declared.command.Command.TheVariants as command
use Rattle.tg_graph.specs.declared.rules.Found.{Found}
use Rattle.tg_graph.specs.Promise.Terms as effect
use Rattle.tg_graph.specs.Promise.Terms.{Does, terms}
use Rattle.tg_graph.specs.Promise.Protection.{Protection, IsEdge, label, MayBeNamed}
use Rattle.tg_graph.specs.Promise.Rules.{Allowed}
use Rattle.tg_graph.specs.Promise.Deciding.{WasFound, LeadTo}
use Rattle.tg_graph.specs.Inner.Deciding.{IsSubjectIfNamed}
use Rattle.tg_graph.proofs.SoundTerms.{Covers, IsNear, WantedNear}
use Rattle.tg_graph.proofs.DecidingLemmas.{sound}
use Rattle.tg_graph.proofs.ProtectionLemmas.{Entitled, entitled, includes_some}

module _ {P : Type 0} (x : ℕ) (c : Command) (f : Found P) (actor : f.actor.serial ≡ x) (leads : (v : ℕ) → LeadTo (terms x c).needs v → WasFound f v) where
  near : (v : ℕ) → IsNear x (terms x c).needs v → WasFound f v
  near v (inl is) = inl (actor ∙ sym is)
  near v (inr h) = leads v h

  covered : (d : Does) → d ≡ (terms x c).does → Covers x (terms x c) d
  covered d is = subst (Covers x (terms x c)) (sym is) (sound x c).covers

  pub joined_from : (from to : ℕ) (α : Letters) → effect.Joins from α to ≡ (terms x c).does → WasFound f from
  joined_from from to α is = near from (covered (effect.Joins from α to) is).0

  pub joined_to : (from to : ℕ) (α : Letters) → effect.Joins from α to ≡ (terms x c).does → WasFound f to
  joined_to from to α is = leads to (covered (effect.Joins from α to) is).1

  pub rewritten : (over : ℕ) (text : _) → effect.Rewrites over text ≡ (terms x c).does → WasFound f over
  rewritten over text is = leads over (subst (WantedNear (terms x c).needs) (covered (effect.Rewrites over text) is) (sound x c).wants)

  pub told : (over : ℕ) → effect.Tells over ≡ (terms x c).does → WasFound f over
  told over is = leads over (covered (effect.Tells over) is)

  pub listed : (at : ℕ) → effect.Lists at ≡ (terms x c).does → WasFound f at
  listed at is = near at (covered (effect.Lists at) is)

  pub assumed : (agent : ℕ) → effect.Acts (Some agent) ≡ (terms x c).does → WasFound f agent
  assumed agent is = leads agent (subst (WantedNear (terms x c).needs) (covered (effect.Acts (Some agent)) is) (sound x c).wants)

module _ (G : Protection) (x : ℕ) (c : Command) (allowed : Allowed G x c) where
  granted : (d : Does) → d ≡ (terms x c).does → Entitled G (λ _. Unit {0}) (λ v z k e. tt) x tt d
  granted d is = subst (Entitled G (λ _. Unit {0}) (λ v z k e. tt) x tt) (sym is) (entitled G (λ _. Unit {0}) (λ v z k e. tt) x tt c allowed)

  pub joined_apart : (from to : ℕ) (α : Letters) → effect.Joins from α to ≡ (terms x c).does → from ≢ to
  joined_apart from to α is = (granted (effect.Joins from α to) is).2

  pub dropped_edge : (over : ℕ) (α : Letters) → effect.Drops α over ≡ (terms x c).does → IsEdge G x over
  dropped_edge over α is = let g = granted (effect.Drops α over) is in includes_some (label G x over) α g.0 g.1

  pub dropped_has : (over : ℕ) (α : Letters) → effect.Drops α over ≡ (terms x c).does → includes (label G x over) α ≡ true
  dropped_has over α is = (granted (effect.Drops α over) is).0

  pub joined_named : (from to : ℕ) (α : Letters) → effect.Joins from α to ≡ (terms x c).does → is_none α ≡ false
  joined_named from to α is = (granted (effect.Joins from α to) is).3

  pub made_named : (k : Kind) (α : Letters) (name : Option (List ℕ)) → effect.Makes k α name ≡ (terms x c).does → (is_none α ≡ false) × IsSubjectIfNamed k name × MayBeNamed G.names name
  made_named k α name is = granted (effect.Makes k α name) is

-- only an assume makes somebody the agent
pub acts_for : (x : ℕ) (c : Command) (agent : ℕ) → effect.Acts (Some agent) ≡ (terms x c).does → c ≡ command.Assume agent
acts_for x (command.Assume other) agent is = let same : agent ≡ other = cc is in ap (λ n. command.Assume n) (sym same)
acts_for x _ agent is = absurd (cc is)
