-- A history, replayed entry by entry.
use Rattle.std.proofs.Common.{◌≡◌, ℕ, zero, suc, ◌+◌, List, [], ◌∷◌, ◌++◌, drop, take, length, refl, sym, ap, ◌∙◌, subst, arith, slice_get, Bool, true, false, cond, inl, inr, Some, None}
use Rattle.std.proofs.lemmas.Option.{none-some, same_Some}
use Rattle.tg_rights.specs.Promise.Command.{rule_of}
use Rattle.tg_rights.specs.declared.command.Command.{Command}
use Rattle.tg_rights.specs.declared.command.Command.TheVariants as command
use Rattle.tg_rights.specs.declared.outcome.Cause.TheVariants as cause
use Rattle.tg_rights.specs.declared.outcome.Outcome.{Outcome}
use Rattle.tg_rights.specs.declared.outcome.Outcome.TheVariants as outcome
use Rattle.tg_rights.specs.declared.outcome.Which.TheVariants as which
use Rattle.tg_rights.specs.declared.outcome.Reply.{Reply}
use Rattle.tg_rights.specs.declared.outcome.Reply.TheVariants as reply
use Rattle.tg_graph.specs.Promise.Fullness.{Limits, Permitted}
use Rattle.tg_graph.specs.Promise.Protection.{IsGraph, IsSubject, Protection, has_retired}
use Rattle.tg_graph.specs.Promise.Rules.{Applies, PlainlyDecided, denial, is_for_retired, next_graph, reply_of}
use Rattle.tg_graph.proofs.DecidingLemmas.{only_leave}
use Rattle.tg_vault.specs.declared.entry.Entry.{Entry}
use Rattle.tg_vault.specs.Promise.Contents.{Contents, graph_now}
use Rattle.tg_vault.specs.Promise.History.{EntryRun, Legal}
use Rattle.tg_vault.proofs.HistoryLemmas.{IsLawful, asks_subject, lawful_first, turn_keeps}
use Rattle.tg_vault.proofs.RetiredLemmas.{leave_allowed, retired_denied}
use Rattle.tg_audit.specs.Promise.Replies.{replies_of}
use Rattle.tg_audit.specs.Inner.Replies.{IsSubjectOrRetired, beyond, retired_reply}
use Rattle.tg_audit.proofs.FollowingLemmas.{drop_some}

-- what the plain graph decides, if it can, is what a history permits
decided_as_permitted : (limits : Limits) (G : Protection) (x : ℕ) (c : Command) (o p : Outcome) → Permitted limits G x c o → beyond o ≡ None → PlainlyDecided G x c p → p ≡ o
decided_as_permitted limits G x c o (outcome.Full which.Slots) permitted plain decided = absurd decided
decided_as_permitted limits G x c o (outcome.Full which.Cells) permitted plain decided = absurd decided
decided_as_permitted limits G x c outcome.Allowed outcome.Allowed permitted plain decided = refl
decided_as_permitted limits G x c outcome.Allowed (outcome.Denied rule why) permitted plain decided = absurd (none-some why (sym permitted.0 ∙ decided.1))
decided_as_permitted limits G x c outcome.Allowed (outcome.Full which.Serials) permitted plain decided = absurd (let room = permitted.1 decided.1 in omega arith)
decided_as_permitted limits G x c (outcome.Denied rule why) outcome.Allowed permitted plain decided = absurd (none-some why (sym decided.0 ∙ permitted.1))
decided_as_permitted limits G x c (outcome.Denied rule why) (outcome.Denied other cause) permitted plain decided = λ i. outcome.Denied ((decided.0 ∙ sym permitted.0) i) (same_Some cause why (sym decided.1 ∙ permitted.1) i)
decided_as_permitted limits G x c (outcome.Denied rule why) (outcome.Full which.Serials) permitted plain decided = absurd (none-some why (sym decided.0 ∙ permitted.1))
decided_as_permitted limits G x c (outcome.Full which.Slots) p permitted plain decided = absurd (none-some which.Slots (sym plain))
decided_as_permitted limits G x c (outcome.Full which.Cells) p permitted plain decided = absurd (none-some which.Cells (sym plain))
decided_as_permitted limits G x c (outcome.Full which.Serials) outcome.Allowed permitted plain decided = absurd (let room = decided.1 permitted.1.0 in let none = permitted.1.1 in omega arith)
decided_as_permitted limits G x c (outcome.Full which.Serials) (outcome.Denied rule why) permitted plain decided = absurd (none-some why (sym permitted.0 ∙ decided.1))
decided_as_permitted limits G x c (outcome.Full which.Serials) (outcome.Full which.Serials) permitted plain decided = refl

-- so its reply and the graph that it leaves are those of the outcome
pub reply_permitted : (limits : Limits) (G H : Protection) (x : ℕ) (c d : Command) (o : Outcome) (answer : Reply) → Permitted limits G x c o → beyond o ≡ None → d ≡ c → Applies G x d answer H → answer ≡ reply_of G x c o
reply_permitted limits G H x c d o answer permitted plain same applies =
    let here : Applies G x c answer H = (let A : Command → Type 0 = λ e. Applies G x e answer H in subst A same applies) in
    here.2 ∙ ap (reply_of G x c) (decided_as_permitted limits G x c o here.0 permitted plain here.1)

pub graph_permitted : (limits : Limits) (G H : Protection) (x : ℕ) (c d : Command) (o : Outcome) (answer : Reply) → Permitted limits G x c o → beyond o ≡ None → d ≡ c → Applies G x d answer H → H ≡ next_graph G x c o
graph_permitted limits G H x c d o answer permitted plain same applies =
    let here : Applies G x c answer H = (let A : Command → Type 0 = λ e. Applies G x e answer H in subst A same applies) in
    here.3 ∙ ap (next_graph G x c) (decided_as_permitted limits G x c o here.0 permitted plain here.1)

-- who has retired is told that it is done if it leaves, and denied all else; neither changes the graph
module _ (limits : Limits) (G : Protection) (x : ℕ) (retired : has_retired G x ≡ true) where
  abbrev Settles : Command → Outcome → Reply → Type 0
  Settles c o answer = (answer ≡ reply_of G x c o) × (G ≡ next_graph G x c o)

  leave_settled : (o : Outcome) → Permitted limits G x command.Leave o → Settles command.Leave o reply.Done
  leave_settled outcome.Allowed permitted = (refl, refl)
  leave_settled (outcome.Denied rule why) permitted = absurd (none-some why (sym (leave_allowed G x command.Leave refl) ∙ permitted.1))
  leave_settled (outcome.Full which.Cells) permitted = absurd permitted.1.0
  leave_settled _ permitted = absurd (cc permitted.1.0)

  denial_settled : (c : Command) (o : Outcome) → Permitted limits G x c o → denial G x c ≡ Some cause.Retired → Settles c o (reply.Denied (rule_of c) cause.Retired)
  denial_settled c (outcome.Denied rule why) permitted denied = (λ i. reply.Denied ((sym permitted.0) i) (same_Some cause.Retired why (sym denied ∙ permitted.1) i), refl)
  denial_settled c _ permitted denied = absurd (none-some cause.Retired (sym permitted.0 ∙ denied))

  pub retired_settled : (c : Command) (o : Outcome) → Permitted limits G x c o → Settles c o (retired_reply x c)
  retired_settled c o permitted = by (is_for_retired x c) refl where
    by : (b : Bool) → is_for_retired x c ≡ b → Settles c o (cond b reply.Done (reply.Denied (rule_of c) cause.Retired))
    by true early = let C : Command → Type 0 = λ d. Permitted limits G x d o → Settles d o reply.Done in subst C (sym (only_leave x c early)) (leave_settled o) permitted
    by false early = denial_settled c o permitted (retired_denied G x c early retired)

-- whom the graph can answer is a subject if it has not retired
pub unretired_subject : (G : Protection) (x : ℕ) → IsSubjectOrRetired G x → has_retired G x ≡ false → IsSubject G x
unretired_subject G x (inl subject) unretired = subject
unretired_subject G x (inr retired) unretired = absurd (cc (retired, unretired))

drop_first : {X : Type 0} (xs : List X) (k : ℕ) → slice_get (drop k xs) 0 ≡ slice_get xs k
drop_first [] zero = refl
drop_first [] (suc k) = refl
drop_first (x ∷ xs) zero = refl
drop_first (x ∷ xs) (suc k) = drop_first xs k

drop_rest : {X : Type 0} (xs : List X) (k : ℕ) → drop 1 (drop k xs) ≡ drop (suc k) xs
drop_rest [] zero = refl
drop_rest [] (suc k) = refl
drop_rest (x ∷ xs) zero = refl
drop_rest (x ∷ xs) (suc k) = drop_rest xs k

-- one more of the first elements
pub take_more : {X : Type 0} (xs : List X) (k : ℕ) (x : X) → slice_get xs k ≡ Some x → take k xs ++ x ∷ [] ≡ take (suc k) xs
take_more [] k x at = absurd (none-some x at)
take_more (y ∷ xs) zero x at = ap (λ z. z ∷ []) (sym (same_Some y x at))
take_more (y ∷ xs) (suc k) x at = ap (λ zs. y ∷ zs) (take_more xs k x at)

-- a vault's history, parted: the first entries lead to a graph, and the others on from there
pub record IsLeft (v : Contents) (G : Protection) (n : ℕ) : Type 0 where
  pub lawful : IsLawful (take n v.history) G
  pub ends : Protection
  pub run : EntryRun v.limits (take n v.history) G (drop n v.history) ends

-- the next entry leads on
left_step : (v : Contents) (G : Protection) (n : ℕ) (e : Entry) → (left : IsLeft v G n) → slice_get v.history n ≡ Some e → EntryRun v.limits (take n v.history) G (e ∷ drop (suc n) v.history) left.ends
left_step v G n e left at = let R : List Entry → Type 0 = λ xs. EntryRun v.limits (take n v.history) G xs left.ends in subst R (drop_some v.history n e at) left.run

pub left_asks : (v : Contents) (G : Protection) (n : ℕ) (e : Entry) → IsLeft v G n → slice_get v.history n ≡ Some e → IsSubjectOrRetired G e.actor
left_asks v G n e left at = asks_subject (take n v.history) G e.seat e.actor left.lawful (left_step v G n e left at).1.0

pub left_permitted : (v : Contents) (G : Protection) (n : ℕ) (e : Entry) → IsLeft v G n → slice_get v.history n ≡ Some e → (limits : Limits) × Permitted limits G e.actor e.command e.outcome
left_permitted v G n e left at = (v.limits, (left_step v G n e left at).1.1)

pub left_more : (v : Contents) (G H : Protection) (n : ℕ) (e : Entry) → IsLeft v G n → slice_get v.history n ≡ Some e → H ≡ next_graph G e.actor e.command e.outcome → IsLeft v H (n + 1)
left_more v G H n e left at graph =
    let next : n + 1 ≡ suc n = omega arith in
    let run = left_step v G n e left at in
    let same : run.0 ≡ H = run.1.2 ∙ sym graph in
    let before = take n v.history in
    let rest = drop (suc n) v.history in
    let R : Protection → Type 0 = λ F. EntryRun v.limits (before ++ e ∷ []) F rest left.ends in
    let B : List Entry → Type 0 = λ xs. IsLawful xs H × EntryRun v.limits xs H rest left.ends in
    let both : B (take (suc n) v.history) = subst B (take_more v.history n e at) (turn_keeps v.limits before G e H left.lawful (run.1.0, run.1.1, graph), subst R same run.2) in
    subst (IsLeft v H) (sym next) (record { lawful = both.0; ends = left.ends; run = both.1 })

pub replies_length : (G : Protection) (es : List Entry) → length (replies_of G es) ≡ length es
replies_length G [] = refl
replies_length G (e ∷ es) = ap suc (replies_length (next_graph G e.actor e.command e.outcome) es)

-- a vault's history has been replayed up to an entry: the further replies are those that the graph gives
pub record IsReplayed (v : Contents) (G : Protection) (number : ℕ) : Type 0 where
  pub further : drop number (replies_of v.opening v.history) ≡ replies_of G (drop number v.history)
  pub left : IsLeft v G number

pub replayed_none : (v : Contents) (G : Protection) → G ≡ v.opening → IsGraph v.opening → Legal v.limits v.opening v.history (graph_now v) → IsReplayed v G 0
replayed_none v G same opened legal = subst (λ F. IsReplayed v F 0) (sym same) (record {
  further = refl;
  left = record { lawful = lawful_first v.opening opened; ends = graph_now v; run = legal.graphs };
})

-- the next reply is the next entry's
further_next : (v : Contents) (G H : Protection) (n : ℕ) (e : Entry) (r : Reply) → IsReplayed v G n → slice_get v.history n ≡ Some e → r ≡ reply_of G e.actor e.command e.outcome → H ≡ next_graph G e.actor e.command e.outcome →
    drop n (replies_of v.opening v.history) ≡ r ∷ replies_of H (drop (suc n) v.history)
further_next v G H n e r so_far at reply graph = so_far.further ∙ rw (drop_some v.history n e at, reply, graph) refl

pub record Replays (v : Contents) (H : Protection) (n : ℕ) (r : Reply) : Type 0 where
  pub told : slice_get (replies_of v.opening v.history) n ≡ Some r
  pub replayed : IsReplayed v H (n + 1)

pub replays : (v : Contents) (G H : Protection) (n : ℕ) (e : Entry) (r : Reply) → IsReplayed v G n → slice_get v.history n ≡ Some e → r ≡ reply_of G e.actor e.command e.outcome → H ≡ next_graph G e.actor e.command e.outcome →
    Replays v H n r
replays v G H n e r so_far at reply graph =
    let next : n + 1 ≡ suc n = omega arith in
    let rest = further_next v G H n e r so_far at reply graph in
    record {
      told = sym (drop_first (replies_of v.opening v.history) n) ∙ ap (λ rs. slice_get rs 0) rest;
      replayed = record {
        further = rw next (sym (drop_rest (replies_of v.opening v.history) n) ∙ ap (drop 1) rest);
        left = left_more v G H n e so_far.left at graph;
      };
    }
