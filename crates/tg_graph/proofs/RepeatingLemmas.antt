-- Whether a reply is the one that a command gets: a list compared from its first element on.
use Rattle.std.proofs.Common.{◌≡◌, ℕ, ◌+◌, ◌≤◌, ◌↔◌, zero, suc, List, [], ◌∷◌, ◌++◌, Bool, true, IsTrue, Some, Result, Ok, Err, IfOk, OnOk, take, length, slice_get, nat_eq, refl, sym, ap, ◌∙◌, arith, Decides}
use Rattle.std.proofs.lemmas.Bool.{eqb-true, eq-eqb}
use Rattle.std.proofs.lemmas.Bool.Decides.{nat_tests}
use Rattle.std.proofs.lemmas.List.{length-take-le}
use Rattle.std.proofs.lemmas.Option.{none-some, same_Some}
use Rattle.tg_rights.specs.Promise.Letters.{Letters, number}
use Rattle.tg_rights.specs.declared.command.Command.{Command}
use Rattle.tg_rights.specs.declared.command.Command.TheVariants as command
use Rattle.tg_rights.specs.declared.outcome.Outcome.TheVariants as outcome
use Rattle.tg_rights.specs.declared.outcome.Reply.{Reply}
use Rattle.tg_rights.specs.declared.outcome.Reply.TheVariants as reply
use Rattle.tg_graph.specs.Promise.Protection.{Protection}
use Rattle.tg_graph.specs.Promise.Repeating.{Repeats}
use Rattle.tg_graph.specs.Promise.Rules.{Allowed, PlainlyDecided, after, allowed_reply, text_of}

-- an allowed command that was carried out
pub repeats_allowed : {E : Type 0} (G H : Protection) (x : ℕ) (c : Command) (told : Reply) (r : Result Bool E) → PlainlyDecided G x c outcome.Allowed →
    IfOk r (λ same. IsTrue same ↔ allowed_reply G x c ≡ told) → OnOk r (H ≡ after G x c) → IfOk r (λ same. Repeats G x c told same H)
repeats_allowed G H x c told (Ok same) decided is graph = (allowed_reply G x c, (outcome.Allowed, decided, refl, graph), is)
repeats_allowed G H x c told (Err e) decided is graph = tt

-- a read that is allowed, which changes nothing
pub repeats_read : (G : Protection) (x y : ℕ) (told : Reply) (same : Bool) → Allowed G x (command.Read y) → (IsTrue same ↔ reply.Text (text_of G y) ≡ told) → Repeats G x (command.Read y) told same G
repeats_read G x y told same allowed is = (reply.Text (text_of G y), (outcome.Allowed, (allowed, λ new. absurd (cc new)), refl, refl), is)

-- one more of the first elements
take_more : {X : Type 0} (xs : List X) (k : ℕ) (x : X) → slice_get xs k ≡ Some x → take k xs ++ x ∷ [] ≡ take (suc k) xs
take_more [] k x at = absurd (none-some x at)
take_more (y ∷ xs) zero x at = ap (λ z. z ∷ []) (sym (same_Some y x at))
take_more (y ∷ xs) (suc k) x at = ap (λ zs. y ∷ zs) (take_more xs k x at)

pub take_next : {X : Type 0} (xs : List X) (k : ℕ) (x : X) → slice_get xs k ≡ Some x → take (k + 1) xs ≡ take k xs ++ x ∷ []
take_next xs k x at = let next : k + 1 ≡ suc k = omega arith in rw next (sym (take_more xs k x at))

-- a list that is its first elements, x and a rest has x after those
pub there_next : {X : Type 0} (xs : List X) (k : ℕ) (x : X) (rest : List X) → take k xs ++ x ∷ rest ≡ xs → slice_get xs k ≡ Some x
there_next [] zero x rest e = absurd (cc e)
there_next [] (suc k) x rest e = absurd (cc e)
there_next (y ∷ xs) zero x rest e = cc e
there_next (y ∷ xs) (suc k) x rest e = there_next xs k x rest (cc e)

-- the first elements are all if they are the list
pub taken_all : {X : Type 0} (xs : List X) (k : ℕ) → k ≤ length xs → take k xs ≡ xs → k ≡ length xs
taken_all xs k within e = sym (length-take-le k xs within) ∙ ap length e

same_letters : (a b : Letters) → nat_eq (number a) (number b) ≡ true → a ≡ b
same_letters a b e = grind (arith, nat_tests)

-- an element of this serial is this edge if it has the label
pub is_edge : (y : ℕ × Letters) (n : ℕ) (l : Letters) → y.0 ≡ n → Decides (nat_eq (number y.1) (number l)) (Some y ≡ Some (n, l))
is_edge y n l first = (λ e i. Some (first i, same_letters y.1 l e i), λ e. eq-eqb (number y.1) (number l) (ap (λ z. number z.1) (same_Some y (n, l) e)))

pub other_edge : (y : ℕ × Letters) (n : ℕ) (l : Letters) → (y.0 ≡ n → ⊥) → Decides (nat_eq y.0 n) (Some y ≡ Some (n, l))
other_edge y n l other = (λ e. absurd (other (eqb-true y.0 n e)), λ e. absurd (other (ap (λ z. z.0) (same_Some y (n, l) e))))

-- a list without elements
pub no_elements : {X : Type 0} (xs : List X) → Decides (nat_eq (length xs) 0) ([] ≡ xs)
no_elements [] = (λ e. refl, λ e. refl)
no_elements (x ∷ xs) = (λ e. absurd (let none = eqb-true (length (x ∷ xs)) 0 e in omega (arith, none)), λ e. absurd (cc e))

pub same_texts : (t u : List ℕ) → reply.Text t ≡ reply.Text u → t ≡ u
same_texts t u e = cc e
