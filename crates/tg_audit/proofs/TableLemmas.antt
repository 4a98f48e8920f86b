-- The progress of all seats along the history.
use Rattle.std.proofs.Common.{◌≡◌, ◌≢◌, ℕ, zero, suc, ◌+◌, ◌<◌, ◌≤◌, List, [], ◌∷◌, length, refl, sym, ap, ◌∙◌, subst, arith, nat_eq, true, false, slice_get, slice_index_or, Option, Some, None}
use Rattle.std.specs.Prelude.{All, drop, if◌then◌else◌}
use Rattle.std.proofs.lemmas.Option.{get_or_from_slice_get, none-some, same_Some, slice_get-get_or, slice_get_within}
use Rattle.std.proofs.lemmas.List.{length-replicate, length-set}
use Rattle.std.specs.Option.{option_map}
use Rattle.std.proofs.lemmas.Bool.{cases_eq, cases_lt}
use Rattle.std.proofs.lemmas.Bool.Decides.{nat_tests}
use Rattle.std.proofs.lemmas.List.Elements.{All-head, All-tail}
use Rattle.std.proofs.Math.ListN.{replicate, set}
use Rattle.std.proofs.Math.Logic.{◌⊎◌, inl, inr}
use Rattle.tg_rights.specs.declared.limits.TheConstants.{SEATS}
use Rattle.tg_rights.specs.declared.outcome.Reply.{Reply}
use Rattle.tg_graph.specs.Promise.Protection.{Protection}
use Rattle.tg_graph.specs.Promise.Rules.{next_graph}
use Rattle.tg_vault.specs.declared.entry.Entry.{Entry}
use Rattle.tg_vault.specs.Promise.Contents.{Contents}
use Rattle.tg_audit.specs.declared.logs.Exchange.{Exchange}
use Rattle.tg_audit.specs.declared.logs.SeatLog.{SeatLog}
use Rattle.tg_audit.specs.declared.following.Progress.{Progress}
use Rattle.tg_audit.specs.declared.following.Progress.TheVariants as progress
use Rattle.tg_audit.specs.Inner.Following.{Beside, HasFollowed, FollowsAll, IsLeastAbove, followed, told}
use Rattle.tg_audit.specs.Promise.Replies.{replies_of}
use Rattle.tg_audit.specs.Promise.Settling.{Agrees, DifferAt, IsPlace, exchanges_of, joined_logs}
use Rattle.tg_audit.proofs.FollowingLemmas.{drop_past, drop_some, joined_from_start}

-- the entries of a seat with the replies at their places
abbrev pub picked : ℕ → List Entry → List Reply → List Exchange
picked seat [] rs = []
picked seat (e ∷ es) [] = []
picked seat (e ∷ es) (r ∷ rs) = (if nat_eq e.seat seat then told e r ∷ picked seat es rs else picked seat es rs)

-- those from an entry on
abbrev pub picked_from : ℕ → List Entry → List Reply → ℕ → List Exchange
picked_from seat es rs number = picked seat (drop number es) (drop number rs)

picked_whole : (seat : ℕ) (G : Protection) (es : List Entry) → picked seat es (replies_of G es) ≡ exchanges_of seat G es
picked_whole seat G [] = refl
picked_whole seat G (e ∷ es) = rw (picked_whole seat (next_graph G e.actor e.command e.outcome) es) refl

-- an entry of the seat is the next that is picked
picked_next : (seat : ℕ) (es : List Entry) (rs : List Reply) (n : ℕ) (e : Entry) (r : Reply) → slice_get es n ≡ Some e → slice_get rs n ≡ Some r → e.seat ≡ seat →
    picked_from seat es rs n ≡ told e r ∷ picked_from seat es rs (n + 1)
picked_next seat es rs n e r entry reply same =
    let test : nat_eq e.seat seat ≡ true = grind (arith, nat_tests) in
    let next : n + 1 ≡ suc n = omega arith in
    rw (drop_some es n e entry, drop_some rs n r reply, test, next) refl

-- an entry of another seat is not
picked_skip : (seat : ℕ) (es : List Entry) (rs : List Reply) (n : ℕ) (e : Entry) (r : Reply) → slice_get es n ≡ Some e → slice_get rs n ≡ Some r → e.seat ≢ seat →
    picked_from seat es rs n ≡ picked_from seat es rs (n + 1)
picked_skip seat es rs n e r entry reply other =
    let test : nat_eq e.seat seat ≡ false = grind (arith, nat_tests) in
    let next : n + 1 ≡ suc n = omega arith in
    rw (drop_some es n e entry, drop_some rs n r reply, test, next) refl

picked_past : (seat : ℕ) (es : List Entry) (rs : List Reply) (n : ℕ) → length es ≤ n → picked_from seat es rs n ≡ []
picked_past seat es rs n past = rw (drop_past es n past) refl

set_there : {X : Type 0} (xs : List X) (i : ℕ) (x p : X) → slice_get (set xs i x) i ≡ Some p → p ≡ x
set_there [] zero x p at = absurd (none-some p at)
set_there [] (suc i) x p at = absurd (none-some p at)
set_there (y ∷ xs) zero x p at = sym (same_Some x p at)
set_there (y ∷ xs) (suc i) x p at = set_there xs i x p at

set_elsewhere : {X : Type 0} (xs : List X) (i j : ℕ) (x p : X) → j ≢ i → slice_get (set xs i x) j ≡ Some p → slice_get xs j ≡ Some p
set_elsewhere [] zero j x p other at = at
set_elsewhere [] (suc i) j x p other at = at
set_elsewhere (y ∷ xs) zero zero x p other at = absurd (other refl)
set_elsewhere (y ∷ xs) zero (suc j) x p other at = at
set_elsewhere (y ∷ xs) (suc i) zero x p other at = at
set_elsewhere (y ∷ xs) (suc i) (suc j) x p other at = set_elsewhere xs i j x p (λ e. other (ap suc e)) at

-- each seat has been followed up to an entry
pub record FollowedTo (v : Contents) (logs : List SeatLog) (replies : List Reply) (number : ℕ) (table : List Progress) : Type 0 where
  pub whole : length table ≡ SEATS
  pub follows : (seat : ℕ) → seat < SEATS → (p : Progress) → slice_get table seat ≡ Some p → HasFollowed seat logs (exchanges_of seat v.opening v.history) (picked_from seat v.history replies number) p
  pub few : (seat : ℕ) → seat < SEATS → (p : Progress) → slice_get table seat ≡ Some p → followed p ≤ number

abbrev pub start : Progress
start = progress.Beside (record { log = 0; at = 0 }) 0

fresh_start : (n seat : ℕ) (p : Progress) → slice_get (replicate n start) seat ≡ Some p → p ≡ start
fresh_start zero seat p at = absurd (none-some p at)
fresh_start (suc n) zero p at = sym (same_Some start p at)
fresh_start (suc n) (suc seat) p at = fresh_start n seat p at

-- no entry has been followed
pub followed_fresh : (v : Contents) (logs : List SeatLog) → FollowedTo v logs (replies_of v.opening v.history) 0 (replicate SEATS start)
followed_fresh v logs = record {
  whole = length-replicate SEATS start;
  follows = λ seat below p at.
      (let replies = replies_of v.opening v.history in
      let entered : exchanges_of seat v.opening v.history ≡ picked seat v.history replies = sym (picked_whole seat v.opening v.history) in
      let beside : Beside seat logs (exchanges_of seat v.opening v.history) (picked_from seat v.history replies 0) (record { log = 0; at = 0 }) 0 =
      record { common = []; entered = entered; logged = sym (joined_from_start seat logs); count = refl } in
      let F : Progress → Type 0 = λ q. HasFollowed seat logs (exchanges_of seat v.opening v.history) (picked_from seat v.history replies 0) q in
      subst F (sym (fresh_start SEATS seat p at)) beside);
  few = λ seat below p at. (let same = fresh_start SEATS seat p at in omega (arith, ap followed same));
}

-- one more entry
pub followed_more : (v : Contents) (logs : List SeatLog) (replies : List Reply) (n : ℕ) (table : List Progress) (e : Entry) (r : Reply) (p q : Progress) →
    FollowedTo v logs replies n table → slice_get v.history n ≡ Some e → slice_get replies n ≡ Some r → e.seat < SEATS → slice_get table e.seat ≡ Some p →
    ((entries rest : List Exchange) → HasFollowed e.seat logs entries (told e r ∷ rest) p → HasFollowed e.seat logs entries rest q) → followed q ≤ followed p + 1 →
    FollowedTo v logs replies (n + 1) (set table e.seat q)
followed_more v logs replies n table e r p q so_far entry reply sat here turns count = record {
  whole = length-set table e.seat q ∙ so_far.whole;
  follows = λ seat below x at. elim (seat_or seat) as (λ _. HasFollowed seat logs (entries seat) (picked_from seat v.history replies (n + 1)) x) [
    | inl same ↦ subst (λ k. HasFollowed k logs (entries k) (picked_from k v.history replies (n + 1)) x) same (at_seat x (subst (λ k. slice_get (set table e.seat q) k ≡ Some x) (sym same) at))
    | inr other ↦ subst (λ l. HasFollowed seat logs (entries seat) l x) (picked_skip seat v.history replies n e r entry reply other) (so_far.follows seat below x (set_elsewhere table e.seat seat q x (λ is. other (sym is)) at))
  ];
  few = λ seat below x at. elim (seat_or seat) as (λ _. followed x ≤ n + 1) [
    | inl same ↦
        let there : x ≡ q = set_there table e.seat q x (subst (λ k. slice_get (set table e.seat q) k ≡ Some x) (sym same) at) in
        omega (arith, ap followed there, so_far.few e.seat sat p here)
    | inr other ↦ omega (arith, so_far.few seat below x (set_elsewhere table e.seat seat q x (λ is. other (sym is)) at))
  ];
} where
  entries : ℕ → List Exchange
  entries seat = exchanges_of seat v.opening v.history

  seat_or : (seat : ℕ) → (e.seat ≡ seat) ⊎ (e.seat ≢ seat)
  seat_or seat = cases_eq e.seat seat

  at_seat : (x : Progress) → slice_get (set table e.seat q) e.seat ≡ Some x → HasFollowed e.seat logs (entries e.seat) (picked_from e.seat v.history replies (n + 1)) x
  at_seat x at =
      let before = subst (λ l. HasFollowed e.seat logs (entries e.seat) l p) (picked_next e.seat v.history replies n e r entry reply refl) (so_far.follows e.seat sat p here) in
      subst (λ y. HasFollowed e.seat logs (entries e.seat) (picked_from e.seat v.history replies (n + 1)) y) (sym (set_there table e.seat q x at)) (turns (entries e.seat) (picked_from e.seat v.history replies (n + 1)) before)

-- at the end of the history nothing is left
pub followed_end : (v : Contents) (logs : List SeatLog) (replies : List Reply) (n : ℕ) (table : List Progress) → FollowedTo v logs replies n table → length v.history ≤ n → FollowsAll v logs table
followed_end v logs replies n table so_far past = λ seat below p at.
    (let F : List Exchange → Type 0 = λ l. HasFollowed seat logs (exchanges_of seat v.opening v.history) l p in
    subst F (picked_past seat v.history replies n past) (so_far.follows seat below p at))

-- what holds of each entry holds of this one
pub all_at : {X : Type 0} (P : X → Type 0) (xs : List X) (k : ℕ) (x : X) → All P xs → slice_get xs k ≡ Some x → P x
all_at P xs k x all at = subst P (get_or_from_slice_get xs k x x at) (all k x (slice_get_within xs k x at))

-- no entry is of a seat above the existing ones
pub none_above : (seat : ℕ) (G : Protection) (es : List Entry) → SEATS ≤ seat → All (λ e. e.seat < SEATS) es → exchanges_of seat G es ≡ []
none_above seat G [] above all = refl
none_above seat G (e ∷ es) above all =
    let below : e.seat < SEATS = All-head (λ (x : Entry). x.seat < SEATS) e es all in
    let test : nat_eq e.seat seat ≡ false = grind (arith, nat_tests) in
    rw test (none_above seat (next_graph G e.actor e.command e.outcome) es above (All-tail (λ (x : Entry). x.seat < SEATS) e es all))

-- the table's progress of a seat
pub follows_here : (v : Contents) (logs : List SeatLog) (table : List Progress) (seat : ℕ) → length table ≡ SEATS → FollowsAll v logs table → seat < SEATS → HasFollowed seat logs (exchanges_of seat v.opening v.history) [] (slice_index_or table seat start)
follows_here v logs table seat whole all within = all seat within (slice_index_or table seat start) (slice_get-get_or table seat start (omega arith))

-- the place if no existing seat differs
pub place_above : (v : Contents) (logs : List SeatLog) (least : Option ℕ) → All (λ e. e.seat < SEATS) v.history → ((k : ℕ) → k < SEATS → Agrees v logs k) → IsLeastAbove logs least → IsPlace v logs (option_map (λ seat. (seat, 0)) least)
place_above v logs None sat below none = λ seat. agrees seat where
  agrees : (seat : ℕ) → Agrees v logs seat
  agrees seat = elim (cases_lt seat SEATS) as (λ _. Agrees v logs seat) [
    | inl lt ↦ below seat lt
    | inr above ↦ none_above seat v.opening v.history above sat ∙ sym (none seat above)
  ]
place_above v logs (Some seat) sat below least = record {
  before = λ k lt. elim (cases_lt k SEATS) as (λ _. Agrees v logs k) [
    | inl low ↦ below k low
    | inr high ↦ none_above k v.opening v.history high sat ∙ sym (least.2 k high lt)
  ];
  here = differs (joined_logs seat logs) least.1;
} where
  differs : (xs : List Exchange) → (xs ≡ [] → ⊥) → DifferAt (exchanges_of seat v.opening v.history) xs 0
  differs [] some = absurd (some refl)
  differs (x ∷ xs) some = rw (none_above seat v.opening v.history least.0 sat) (refl, λ same. none-some x same)
