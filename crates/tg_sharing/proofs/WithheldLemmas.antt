-- What is withheld from all that is spanned stays so, step by step.
use Rattle.std.proofs.Common.{◌≡◌, ℕ, ◌<◌, ◌∷◌, [], List, Bool, true, cond, refl, sym, ap, subst, ◌∙◌, ◌⊎◌, inl, inr, ◌==◌, arith}
use Rattle.std.proofs.lemmas.Bool.{eq-eqb, ne_eqb}
use Rattle.tg_rights.specs.Promise.Letters.{Right, take, grant, has, includes}
use Rattle.tg_rights.proofs.LettersLemmas.{are_set_operations}
use Rattle.tg_graph.specs.declared.derivation.Goal.{Goal}
use Rattle.tg_graph.specs.declared.derivation.Step.{Step}
use Rattle.tg_graph.specs.Promise.Derivations.{Derives, IsShared}
use Rattle.tg_graph.specs.Promise.Laws.{CommandsKeepGraphs}
use Rattle.tg_graph.specs.Promise.Protection.{Protection, IsGraph, label}
use Rattle.tg_sharing.specs.Promise.Laws.{WithheldForEver}
use Rattle.tg_graph.specs.Promise.EachCommand.{EachIsAllowedSo, HasOver}
use Rattle.tg_sharing.specs.Promise.Spans.{AreClosed, IsActor, IsWithheld}
use Rattle.tg_sharing.proofs.GrowingLemmas.{actor_low, edge_high, edge_low}
use Rattle.tg_sharing.proofs.GrowthLemmas.{Grows, Source, grown}
use Rattle.tg_sharing.proofs.GrowthLemmas as growth

-- the test after a step: what is made is as b says, and all else as before
abbrev with_made : ℕ → Bool → (ℕ → Bool) → ℕ → Bool
with_made next b test v = cond (v == next) b (test v)

with_made-old : (next : ℕ) (b : Bool) (test : ℕ → Bool) (v : ℕ) → v < next → with_made next b test v ≡ test v
with_made-old next b test v low = ap (λ c. cond c b (test v)) (ne_eqb v next (λ is. absurd (omega (arith, low, is))))

with_made-new : (next : ℕ) (b : Bool) (test : ℕ → Bool) (v : ℕ) → v ≡ next → with_made next b test v ≡ b
with_made-new next b test v is = ap (λ c. cond c b (test v)) (eq-eqb v next is)

module _ (G : Protection) (g : IsGraph G) (from to : ℕ) (r : Right) (spanned bridged : ℕ → Bool) (closed : AreClosed G from spanned bridged) (lacks : IsWithheld G from spanned r to) where
  -- an edge between vertices of the graph that could be there: the sets are closed along it, and it gives away nothing
  record Fits (a : ℕ) (s : Right) (b : ℕ) : Type 0 where
    low : a < G.next
    low_end : b < G.next
    taken : s ≡ take → spanned a ≡ true → spanned b ≡ true
    granting : s ≡ grant → spanned a ≡ true → bridged b ≡ true
    granted : s ≡ grant → spanned b ≡ true → bridged a ≡ true
    reaching : s ≡ take → bridged b ≡ true → bridged a ≡ true
    initial : s ≡ grant → b ≡ from → bridged a ≡ true
    lacking : s ≡ r → b ≡ to → (a ≡ from) ⊎ (spanned a ≡ true) → ⊥

  module _ (a : ℕ) (s : Right) (b : ℕ) (h : HasOver G a s b) where
    at : (q : Right) → s ≡ q → HasOver G a q b
    at q e = subst (λ (q : Right). HasOver G a q b) e h

    over : (q : Right) (c : ℕ) → s ≡ q → b ≡ c → HasOver G a q c
    over q c e is = subst (λ (c : ℕ). HasOver G a q c) is (at q e)

  kept : (a : ℕ) (s : Right) (b : ℕ) → HasOver G a s b → Fits a s b
  kept a s b h = record {
    low = edge_high G g a s b h;
    low_end = edge_low G g a s b h;
    taken = λ e p. closed.taken a b p (at a s b h take e);
    granting = λ e p. closed.granting a b p (at a s b h grant e);
    granted = λ e p. closed.granted a b (at a s b h grant e) p;
    reaching = λ e p. closed.reaching a b (at a s b h take e) p;
    initial = λ e is. closed.initial a (over a s b h grant from e is);
    lacking = λ e is either. lacks a either (over a s b h r to e is);
  }

  module _ (x : ℕ) (act : IsActor G x) where
    own_spanned : x ≡ from → spanned x ≡ true
    own_spanned is = closed.spans x act (ap bridged is ∙ closed.own (subst (IsActor G) is act))

    took : (z : ℕ) (s : Right) (b : ℕ) → HasOver G x take z → HasOver G z s b → Fits x s b
    took z s b t h = record {
      low = actor_low G g x act;
      low_end = edge_low G g z s b h;
      taken = λ e p. closed.taken z b (closed.taken x z p t) (at z s b h take e);
      granting = λ e p. closed.granting z b (closed.taken x z p t) (at z s b h grant e);
      granted = λ e p. closed.reaching x z t (closed.granted z b (at z s b h grant e) p);
      reaching = λ e p. closed.reaching x z t (closed.reaching z b (at z s b h take e) p);
      initial = λ e is. closed.reaching x z t (closed.initial z (over z s b h grant from e is));
      lacking = λ e is either.
          let p : spanned x ≡ true = elim either [ inl same ↦ own_spanned same | inr p ↦ p ] in
          lacks z (inr (closed.taken x z p t)) (over z s b h r to e is);
    }

    gave : (a : ℕ) (s : Right) (b : ℕ) → HasOver G x grant a → HasOver G x s b → Fits a s b
    gave a s b k h = record {
      low = edge_low G g x grant a k;
      low_end = edge_low G g x s b h;
      taken = λ e p. closed.taken x b (giver p) (at x s b h take e);
      granting = λ e p. closed.granting x b (giver p) (at x s b h grant e);
      granted = λ e p. closed.granting x a (closed.spans x act (closed.granted x b (at x s b h grant e) p)) k;
      reaching = λ e p. closed.granting x a (closed.spans x act (closed.reaching x b (at x s b h take e) p)) k;
      initial = λ e is. closed.granting x a (closed.spans x act (closed.initial x (over x s b h grant from e is))) k;
      lacking = λ e is either.
          let p : spanned x ≡ true = elim either [
            | inl same ↦ closed.spans x act (closed.initial x (subst (λ (c : ℕ). HasOver G x grant c) same k))
            | inr p ↦ giver p
          ] in
          lacks x (inr p) (over x s b h r to e is);
    } where
      giver : spanned a ≡ true → spanned x ≡ true
      giver p = closed.spans x act (closed.granted x a k p)

  module _ (x : ℕ) (H : Protection) (grows : Grows G x H) (low : from < G.next) (low_goal : to < G.next) where
    abbrev spanned_then : ℕ → Bool
    spanned_then = with_made G.next (spanned x) spanned

    abbrev bridged_then : ℕ → Bool
    bridged_then = with_made G.next (spanned x) bridged

    abbrev IsMade : ℕ → ℕ → Type 0
    IsMade a b = (a ≡ x) × IsActor G x × (b ≡ G.next)

    sourced : (a : ℕ) (s : Right) (b : ℕ) → HasOver H a s b → Fits a s b ⊎ IsMade a b
    sourced a s b h = by (grows.edges a s b h) where
      by : Source G x a s b → Fits a s b ⊎ IsMade a b
      by (growth.Kept h) = inl (kept a s b h)
      by (growth.Taken z is act t h) = inl (subst (λ (v : ℕ). Fits v s b) (sym is) (took x act z s b t h))
      by (growth.Granted act k h) = inl (gave x act a s b k h)
      by (growth.Made is act new) = inr (is, act, new)

    spanned_old : (v : ℕ) → v < G.next → spanned_then v ≡ spanned v
    spanned_old = with_made-old G.next (spanned x) spanned

    bridged_old : (v : ℕ) → v < G.next → bridged_then v ≡ bridged v
    bridged_old = with_made-old G.next (spanned x) bridged

    spanned_new : (v : ℕ) → v ≡ G.next → spanned_then v ≡ spanned x
    spanned_new = with_made-new G.next (spanned x) spanned

    bridged_new : (v : ℕ) → v ≡ G.next → bridged_then v ≡ spanned x
    bridged_new = with_made-new G.next (spanned x) bridged

    not_new : {P : Type 0} (v : ℕ) → v < G.next → v ≡ G.next → P
    not_new v low is = absurd (omega (arith, low, is))

    maker : (a : ℕ) → a ≡ x → IsActor G x → spanned_then a ≡ spanned x
    maker a is act = ap spanned_then is ∙ spanned_old x (actor_low G g x act)

    maker_bridged : (a : ℕ) → a ≡ x → IsActor G x → spanned x ≡ true → bridged_then a ≡ true
    maker_bridged a is act p = ap bridged_then is ∙ bridged_old x (actor_low G g x act) ∙ closed.bridges x act p

    closed_then : AreClosed H from spanned_then bridged_then
    closed_then = record {
      own = λ act. elim (grows.actors from act) [
        | inl old ↦ bridged_old from low ∙ closed.own old
        | inr new ↦ not_new from low new.0
      ];
      initial = λ u h. elim (sourced u grant from h) [
        | inl f ↦ bridged_old u f.low ∙ f.initial refl refl
        | inr m ↦ not_new from low m.2
      ];
      taken = λ u v p h. elim (sourced u take v h) [
        | inl f ↦ spanned_old v f.low_end ∙ f.taken refl (sym (spanned_old u f.low) ∙ p)
        | inr m ↦ spanned_new v m.2 ∙ sym (maker u m.0 m.1) ∙ p
      ];
      granting = λ u v p h. elim (sourced u grant v h) [
        | inl f ↦ bridged_old v f.low_end ∙ f.granting refl (sym (spanned_old u f.low) ∙ p)
        | inr m ↦ bridged_new v m.2 ∙ sym (maker u m.0 m.1) ∙ p
      ];
      granted = λ u v h p. elim (sourced u grant v h) [
        | inl f ↦ bridged_old u f.low ∙ f.granted refl (sym (spanned_old v f.low_end) ∙ p)
        | inr m ↦ maker_bridged u m.0 m.1 (sym (spanned_new v m.2) ∙ p)
      ];
      reaching = λ u v h p. elim (sourced u take v h) [
        | inl f ↦ bridged_old u f.low ∙ f.reaching refl (sym (bridged_old v f.low_end) ∙ p)
        | inr m ↦ maker_bridged u m.0 m.1 (sym (bridged_new v m.2) ∙ p)
      ];
      spans = λ v act p. elim (grows.actors v act) [
        | inl old ↦ spanned_old v (actor_low G g v old) ∙ closed.spans v old (sym (bridged_old v (actor_low G g v old)) ∙ p)
        | inr new ↦ spanned_new v new.0 ∙ sym (bridged_new v new.0) ∙ p
      ];
      bridges = λ v act p. elim (grows.actors v act) [
        | inl old ↦ bridged_old v (actor_low G g v old) ∙ closed.bridges v old (sym (spanned_old v (actor_low G g v old)) ∙ p)
        | inr new ↦ bridged_new v new.0 ∙ sym (spanned_new v new.0) ∙ p
      ];
    }

    lacks_then : IsWithheld H from spanned_then r to
    lacks_then u either h = elim (sourced u r to h) [
      | inl f ↦ f.lacking refl refl (elim either [ inl is ↦ inl is | inr p ↦ inr (sym (spanned_old u f.low) ∙ p) ])
      | inr m ↦ not_new to low_goal m.2
    ]

module _ (met : EachIsAllowedSo) (keep : CommandsKeepGraphs) (goal : Goal) (r : Right) (wanted : has goal.rights r ≡ true) where
  never : (steps : List Step) (G R : Protection) (spanned bridged : ℕ → Bool) → IsGraph G → goal.from < G.next → goal.to < G.next → AreClosed G goal.from spanned bridged →
      IsWithheld G goal.from spanned r goal.to → Derives G steps R → IsShared R goal → ⊥
  never [] G R spanned bridged g low low_goal closed lacks is shared =
      let there : includes (label G goal.from goal.to) goal.rights ≡ true = subst (λ (R : Protection). IsShared R goal) is shared in
      lacks goal.from (inl refl) ((are_set_operations.inclusion (label G goal.from goal.to) goal.rights).0 there r wanted)
  never (s ∷ ss) G R spanned bridged g low low_goal closed lacks (H, made, rest) shared =
      let grows : Grows G s.actor H = subst (Grows G s.actor) (sym made.result) (grown G s.actor met made.subject s.command made.allowed) in
      let graph : IsGraph H = subst IsGraph (sym made.result) (keep G s.actor s.command g made.subject made.allowed).0 in
      never ss H R (spanned_then G g goal.from goal.to r spanned bridged closed lacks s.actor H grows low low_goal) (bridged_then G g goal.from goal.to r spanned bridged closed lacks s.actor H grows low low_goal)
      graph (omega (arith, low, grows.next)) (omega (arith, low_goal, grows.next))
      (closed_then G g goal.from goal.to r spanned bridged closed lacks s.actor H grows low low_goal)
      (lacks_then G g goal.from goal.to r spanned bridged closed lacks s.actor H grows low low_goal) rest shared

pub withheld : EachIsAllowedSo → CommandsKeepGraphs → WithheldForEver
withheld met keep G goal spanned bridged r g low low_goal closed wanted lacks can =
    never met keep goal r wanted can.steps G can.reached spanned bridged g low low_goal closed lacks can.derived can.shared
