-- The terms of each command are consistent, and one command is for those who have retired.
use Rattle.std.proofs.Common.{◌≡◌, ℕ, ◌∷◌, [], true, false, cond, ◌==◌, refl, sym, inl, inr}
use Rattle.std.proofs.lemmas.Bool.{not-true, and_parts, eqb-true, eqb-false, ne_eqb}
use Rattle.tg_rights.specs.Promise.Letters.{take_alone}
use Rattle.tg_rights.specs.declared.command.Command.{Command}
use Rattle.tg_rights.specs.declared.command.Command.TheVariants as command
use Rattle.tg_graph.specs.Promise.Terms.{terms, need}
use Rattle.tg_graph.specs.Promise.Rules.{is_for_retired}
use Rattle.tg_graph.specs.Inner.Deciding.{NeedsFollow, AskSome}
use Rattle.tg_graph.proofs.SoundTerms.{IsNear, IsSound}

flip : (x y : ℕ) → (x == y) ≡ false → (y == x) ≡ false
flip x y e = ne_eqb y x (λ is. eqb-false x y e (sym is))

look_sound : (x at : ℕ) → IsSound x (terms x (command.Look at))
look_sound x at = record { follows = follows; some = λ _. some; wants = tt; covers = near } where
  follows : NeedsFollow x (cond (at == x) [] (need x take_alone at ∷ []))
  follows = elim (at == x) as (λ b. NeedsFollow x (cond b [] (need x take_alone at ∷ []))) [ true ↦ tt | false ↦ refl ]

  some : AskSome (cond (at == x) [] (need x take_alone at ∷ []))
  some = elim (at == x) as (λ b. AskSome (cond b [] (need x take_alone at ∷ []))) [ true ↦ tt | false ↦ (refl, tt) ]

  near : IsNear x (cond (at == x) [] (need x take_alone at ∷ [])) at
  near = elim (at == x) as (λ b. (at == x) ≡ b → IsNear x (cond b [] (need x take_alone at ∷ [])) at) [ true ↦ λ e. inl (eqb-true at x e) | false ↦ λ e. inr (inl refl) ] refl

pub sound : (x : ℕ) (c : Command) → IsSound x (terms x c)
sound x (command.Take α over from) = record {
  follows = (refl, inr refl);
  some = λ e. (refl, (not-true _ e, tt));
  wants = tt;
  covers = (inl refl, inr (inl refl), refl, λ e. not-true _ (and_parts _ _ (and_parts _ _ e).0).0);
}
sound x (command.Grant α over to) = record {
  follows = (refl, inl refl);
  some = λ e. (refl, (not-true _ e, tt));
  wants = tt;
  covers = (inr (inl refl), inr (inl refl), refl, λ e. flip over to (not-true _ (and_parts _ _ e).1));
}
sound x (command.Create k α) = record { follows = tt; some = λ _. tt; wants = tt; covers = (refl, refl, tt) }
sound x (command.Remove α over) = record { follows = refl; some = λ e. (not-true _ e, tt); wants = tt; covers = (refl, refl) }
sound x (command.Read over) = record { follows = refl; some = λ _. (refl, tt); wants = inl refl; covers = inl refl }
sound x (command.Look at) = look_sound x at
sound x (command.Enrol name α) = record { follows = tt; some = λ _. tt; wants = tt; covers = (refl, refl, refl) }
sound x command.Retire = record { follows = tt; some = λ _. tt; wants = tt; covers = refl }
sound x command.Leave = record { follows = tt; some = λ _. tt; wants = tt; covers = tt }
sound x _ = record { follows = refl; some = λ _. (refl, tt); wants = inl refl; covers = refl }

pub only_leave : (x : ℕ) (c : Command) → is_for_retired x c ≡ true → c ≡ command.Leave
only_leave x command.Leave e = refl
only_leave x _ e = absurd (cc e)
