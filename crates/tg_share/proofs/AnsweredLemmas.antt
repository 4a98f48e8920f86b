-- An event under a hold of the lock, and its answer.
use Rattle.std.proofs.Common.{◌≡◌, ◌⊎◌, inl, inr, ℕ, ◌+◌, ◌-◌, ◌<◌, ◌≤◌, List, [], ◌∷◌, ◌++◌, arith, Result, Ok, Err, IfOk, IfErr, IsErrAnd, MatchResult, sym, Some, length, length-append, refl, slice_get, subst}
use Rattle.std.proofs.lemmas.Bool.{cases_lt}
use Rattle.tg_rights.specs.declared.command.Command.{Command}
use Rattle.tg_rights.specs.declared.outcome.Reply.{Reply}
use Rattle.tg_vault.specs.declared.event.AskFault.{AskFault}
use Rattle.tg_vault.specs.declared.event.SeatFault.{SeatFault}
use Rattle.tg_vault.specs.declared.event.SeatFault.TheVariants as seat_fault
use Rattle.tg_vault.specs.declared.event.Event.{Event}
use Rattle.tg_vault.specs.declared.event.Event.TheVariants as event
use Rattle.tg_vault.specs.declared.event.Answer.{Answer}
use Rattle.tg_vault.specs.declared.event.Answer.TheVariants as answer
use Rattle.tg_vault.specs.Promise.Contents.{Contents}
use Rattle.tg_vault.specs.Promise.Course.{VaultStep}
use Rattle.tg_audit.specs.declared.logs.Exchange.{Exchange}
use Rattle.tg_share.specs.declared.locked.TheConstants.{PARTS}
use Rattle.tg_share.specs.Promise.Sessions.{Grows, IsRefused, Sitting, with_exchange}
use Rattle.tg_share.specs.Promise.Reached.{HasAnswered, IsAnswered, IsEntered, IsEnteredFor, IsReached}

-- what lay under the lock, u, is the vault v of the hold
pub answered_on : (v u w : Contents) (e : Event) (a : Answer) → IsReached u → u ≡ v → VaultStep u e a w → IsAnswered v e a
answered_on v u w e a reached same step = subst (λ x. IsAnswered x e a) same (record { reached = reached; after = w; step = step })

pub answered_by : {A F : Type 0} (result : Result A F) (told : A → Answer) (refused : F → Answer) (v u w : Contents) (e : Event) → IsReached u → u ≡ v → MatchResult result (λ x. VaultStep u e (told x) w) (λ f. VaultStep u e (refused f) w) → MatchResult result (λ x. IsAnswered v e (told x)) (λ f. IsAnswered v e (refused f))
answered_by (Ok x) told refused v u w e reached same step = answered_on v u w e (told x) reached same step
answered_by (Err f) told refused v u w e reached same step = answered_on v u w e (refused f) reached same step

-- the same for a command, whose entry has an actor
pub answered_ask : (result : Result (ℕ × Reply) AskFault) (v u w : Contents) (seat : ℕ) (command : Command) → IsReached u → u ≡ v
    → MatchResult result (λ r. VaultStep u (event.Ask seat command) (answer.Asked (length u.history) r.1) w) (λ f. VaultStep u (event.Ask seat command) (answer.Ask f) w) → IfOk result (λ r. IsEnteredFor u w r.0)
    → MatchResult result (λ r. IsEntered v seat r.0 command r.1) (λ f. IsAnswered v (event.Ask seat command) (answer.Ask f))
answered_ask (Ok r) v u w seat command reached same step actors = subst (λ x. IsEntered x seat r.0 command r.1) same (record { reached = reached; after = w; step = step; actors = actors })
answered_ask (Err f) v u w seat command reached same step actors = answered_on v u w (event.Ask seat command) (answer.Ask f) reached same step

-- what the hold of a vault answers to a hello, which is no event if no part is left
abbrev Greets : {S : Type 0} → Contents → ℕ → List ℕ → Result (ℕ × S) SeatFault → Type 0
Greets v seat name result = MatchResult result (λ r. IsAnswered v (event.Hello seat name) (answer.Hello r.0)) (λ f. (f ≡ seat_fault.NoSeat) ⊎ IsAnswered v (event.Hello seat name) (answer.Seat f))

greeted : {S : Type 0} (result : Result (ℕ × S) SeatFault) (v u w : Contents) (seat : ℕ) (name : List ℕ) → IsReached u → u ≡ v
    → MatchResult result (λ r. VaultStep u (event.Hello seat name) (answer.Hello r.0) w) (λ f. VaultStep u (event.Hello seat name) (answer.Seat f) w) → Greets v seat name result
greeted (Ok r) v u w seat name reached same step = answered_on v u w (event.Hello seat name) (answer.Hello r.0) reached same step
greeted (Err f) v u w seat name reached same step = inr (answered_on v u w (event.Hello seat name) (answer.Seat f) reached same step)

pub answered_hello : {S : Type 0} (result : Result (ℕ × S) SeatFault) (v u w : Contents) (seat given : ℕ) (name : List ℕ) → (given + 1 < PARTS → IsReached u) → u ≡ v
    → (given + 1 < PARTS → MatchResult result (λ r. VaultStep u (event.Hello seat name) (answer.Hello r.0) w) (λ f. VaultStep u (event.Hello seat name) (answer.Seat f) w))
    → (PARTS ≤ given + 1 → (result ≡ Err seat_fault.NoSeat) × (w ≡ u)) → Greets v seat name result
answered_hello result v u w seat given name reached same step none =
    elim (cases_lt (given + 1) PARTS) as (λ _. Greets v seat name result) [
      | inl left ↦ greeted result v u w seat name (reached left) same (step left)
      | inr full ↦ rw (none full).0 (inl refl)
    ]

-- at the exit of a `?`
pub passed : {T E : Type 0} (r : Result T E) (e : E) (P : T → Type 0) (Q : E → Type 0) → IsErrAnd r (λ y. y ≡ e) → Q e → MatchResult r P Q
passed (Ok x) e P Q is h = absurd is
passed (Err y) e P Q is h = subst Q (sym is) h

-- the vault of a hold is some vault
pub hello_refused : {S : Type 0} (r : Result S SeatFault) (f : SeatFault) (v : Contents) (seat : ℕ) (name : List ℕ) → IsErrAnd r (λ y. y ≡ f)
    → (f ≡ seat_fault.NoSeat) ⊎ IsAnswered v (event.Hello seat name) (answer.Seat f)
    → IfErr r (λ fault. (fault ≡ seat_fault.NoSeat) ⊎ HasAnswered (event.Hello seat name) (answer.Seat fault))
hello_refused r f v seat name is (inl none) = passed r f _ _ is (inl none)
hello_refused r f v seat name is (inr told) = passed r f _ _ is (inr (record { vault = v; answered = told }))

-- the same for a command, of which a copy was asked
pub ask_refused : {S : Type 0} (r : Result S AskFault) (f : AskFault) (v : Contents) (seat : ℕ) (asked command : Command) → IsErrAnd r (λ y. y ≡ f) → asked ≡ command
    → IsAnswered v (event.Ask seat asked) (answer.Ask f) → IfErr r (λ fault. IsRefused seat command fault)
ask_refused r f v seat asked command is same told =
    passed r f _ (λ fault. IsRefused seat command fault) is (inr (record { vault = v; answered = subst (λ c. IsAnswered v (event.Ask seat c) (answer.Ask f)) same told }))

pub ended_at : {X : Type 0} (xs : List X) (x : X) → slice_get (xs ++ x ∷ []) (length xs) ≡ Some x
ended_at [] x = refl
ended_at (y ∷ ys) x = ended_at ys x

ended : {X : Type 0} (xs : List X) (x : X) → slice_get (xs ++ x ∷ []) (length (xs ++ x ∷ []) - 1) ≡ Some x
ended xs x =
    let long : length (xs ++ x ∷ []) ≡ length xs + 1 = length-append xs (x ∷ []) in
    let last : length (xs ++ x ∷ []) - 1 ≡ length xs = omega (arith, long) in
    rw last (ended_at xs x)

told_last : (old new : Sitting) (actor : ℕ) (command : Command) (reply told : Reply) → new ≡ with_exchange old actor command reply
    → ((x : Exchange) → slice_get new.log (length new.log - 1) ≡ Some x → told ≡ x.reply) → told ≡ reply
told_last old new actor command reply told grown last =
    let x : Exchange = record { actor = actor; command = command; reply = reply } in
    last x (rw grown (ended old.log x))

-- the reply that is told is the last exchange's, so it is the one that the vault gave
pub asked_last : (old new : Sitting) (command : Command) (reply told : Reply) → ((x : Exchange) → slice_get new.log (length new.log - 1) ≡ Some x → told ≡ x.reply) → Grows old new command reply
    → Grows old new command told
asked_last old new command reply told last g = rw (told_last old new g.actor command reply told g.grown last) g
