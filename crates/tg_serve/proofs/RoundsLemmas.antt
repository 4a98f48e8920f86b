-- The rounds of a server, and the lines between them.
use Rattle.std.proofs.Common.{◌≡◌, ◌⊎◌, ◌↔◌, ℕ, zero, suc, ap, ◌+◌, ◌-◌, ◌*◌, ◌<◌, ◌≤◌, min, List, [], ◌∷◌, ◌++◌, length, Option, Bool, true, false, Result, Ok, Err, IfErr, IfOk, IfSome, inl, inr, refl, sym, subst, true≢false, ◌∙◌, append_assoc, append-nil, arith}
use Rattle.tg_graph.specs.Promise.Protection.{Protection}
use Rattle.tg_audit.specs.declared.logs.Settled.TheVariants as settled
use Rattle.tg_share.specs.Promise.Closing.{HandsGraph, IsClosed, logs_of}
use Rattle.tg_share.specs.declared.closing.Closed.{Closed}
use Rattle.tg_share.specs.declared.closing.Closed.TheVariants as closed
use Rattle.tg_share.specs.declared.session.Ended.{Ended}
use Rattle.tg_talk.specs.Promise.Devices.{Sends}
use Rattle.tg_talk.proofs.KnownBytesLemmas.{Appends-more}
use Rattle.tg_talk.proofs.SendsLemmas.{sends_none, sent_whole}
use Rattle.tg_vault.specs.Promise.Contents.{Contents, graph_now}
use Rattle.tg_vault.specs.Promise.Rebase.{IsRebased}
use Rattle.tg_serve.specs.declared.operating.Operating.{Operating}
use Rattle.tg_serve.specs.declared.serve.Unsettled.{Unsettled}
use Rattle.tg_serve.specs.Promise.Serving.{AreEnough, AreRounds, EndsServer, HasAgreed, Concludes, HaveAgreed, HaveRebased, IsAlone, IsCounted, IsServed, SendsOn, agreed_line, found_of, listening_line, rebased_line, rebased_lines}
use Rattle.tg_serve.specs.Inner.Serving.{Announces, HasRounds}

-- a vault that was closed as agreed has agreed
pub closing_agrees : {L : Type 0} (ended : List (Ended L)) (c : Closed L) → IsClosed ended c → IfOk (found_of c) HasAgreed
closing_agrees ended (closed.Done (settled.Agreed v) counted) is = record { logs = logs_of ended; settled = is.settled; headline = is.headline }
closing_agrees ended _ is = tt

-- what else was found ends the server
pub closing_ends : {L : Type 0} (ended : List (Ended L)) (c : Closed L) → IsClosed ended c → IfErr (found_of c) EndsServer
closing_ends ended (closed.Done (settled.Differs v logs seat index) counted) is = record { vault = v; logs = logs_of ended; place = is.settled.2; headline = is.headline }
closing_ends ended _ is = tt

-- the graph that is handed on is that of the vault's history
pub closing_hands : {L : Type 0} (c : Closed L) (graph : Option Protection) → HandsGraph c graph → IfOk (found_of c) (λ v. IfSome graph (λ g. g ≡ graph_now v))
closing_hands (closed.Done (settled.Agreed v) counted) graph is = subst (λ (o : Option Protection). IfSome o (λ g. g ≡ graph_now v)) (sym is) refl
closing_hands _ graph is = tt

-- bytes that are sent one after the other
pub sends_on : (old now new : Option (List ℕ)) (first second third : Bool) (xs ys : List ℕ) → SendsOn old first now second xs → SendsOn now second new third ys → SendsOn old first new third (xs ++ ys)
sends_on old now new first second third xs ys one two =
    record { behind = λ start before sent. subst (Sends start new third) (append_assoc before xs ys) (two.behind start (before ++ xs) (one.behind start before sent)) }

pub sends_nothing_on : (a : Option (List ℕ)) (failed : Bool) → SendsOn a failed a failed []
sends_nothing_on a failed = record { behind = λ start before sent. subst (Sends start a failed) (sym (append-nil before)) sent }

-- this round is the next, so many connections are left for it and for those behind it, and the rounds before it have
-- agreed
pub record RoundsSoFar (operating : Operating) (connections round left number : ℕ) (old new : Option (List ℕ)) (failed : Bool) : Type 0 where
  pub rebased : List Contents
  pub agreed : HaveAgreed rebased
  pub fresh : HaveRebased rebased
  pub next : number ≡ suc (length rebased)
  pub served : IsCounted operating → connections ≡ length rebased * round + left
  pub taken : IsAlone operating → (connections ≤ length rebased * round + left) × (length rebased + left ≤ connections)
  pub some : IsAlone operating → 0 < length rebased → 0 < left
  pub sent : Sends old new failed (rebased_lines rebased)

pub rounds_none : (operating : Operating) (connections round : ℕ) (a : Option (List ℕ)) (failed : Bool) → RoundsSoFar operating connections round connections 1 a a failed
rounds_none operating connections round a failed =
    let served : connections ≡ 0 * round + connections = omega arith in
    let within : connections ≤ 0 * round + connections = omega arith in
    let taken : 0 + connections ≤ connections = omega arith in
    record { rebased = []; agreed = tt; fresh = tt; next = refl; served = λ counted. served; taken = λ alone. (within, taken); some = λ alone h. (let none : 0 < 0 = h in omega (arith, none)); sent = sends_none a failed }

-- what a round takes of the connections that are left, after which more are
pub record GoesOn (operating : Operating) (round left after : ℕ) : Type 0 where
  pub whole : IsCounted operating → after ≡ left - min left round
  pub within : left ≤ after + round
  pub fewer : after < left
  pub more : 0 < after

-- after a round more connections are left, and it was rebased
pub rounds_go_on : (operating : Operating) (connections round left after number : ℕ) (v w : Contents) (old now new : Option (List ℕ)) (was failed : Bool) → (IsAlone operating → GoesOn operating round left after)
    → RoundsSoFar operating connections round left number old now was → HasAgreed v → IsRebased v w → SendsOn now was new failed (rebased_line (length v.history) number)
    → RoundsSoFar operating connections round after (number + 1) old new failed
rounds_go_on operating connections round left after number v w old now new was failed more so_far agreed fresh told =
    let n = length so_far.rebased in
    let is : number ≡ suc n = so_far.next in
    let next : number + 1 ≡ suc (suc n) = omega (arith, is) in
    let sent = told.behind old (rebased_lines so_far.rebased) so_far.sent in
    record {
      rebased = v ∷ so_far.rebased;
      agreed = (agreed, so_far.agreed);
      fresh = (record { fresh = w; rebased = fresh }, so_far.fresh);
      next = next;
      served = λ counted. (
          let goes = more counted.alone in
          let served : connections ≡ n * round + left = so_far.served counted in
          let taken : after ≡ left - min left round = goes.whole counted in
          let some : 0 < after = goes.more in
          omega arith);
      taken = λ alone. (
          let goes = more alone in
          let (most, least) = so_far.taken alone in
          let at_most : connections ≤ n * round + left = most in
          let at_least : n + left ≤ connections = least in
          let within : left ≤ after + round = goes.within in
          let fewer : after < left = goes.fewer in
          (omega (arith, at_most), omega (arith, at_least)));
      some = λ alone h. (more alone).more;
      sent = subst (λ k. Sends old new failed (rebased_lines so_far.rebased ++ rebased_line (length v.history) k)) is sent;
    }

-- the last round takes all that are left, or all were to be served in one
pub rounds_end : (operating : Operating) (connections round left number : ℕ) (old new : Option (List ℕ)) (failed : Bool) → (IsAlone operating → (left ≤ round) ⊎ (connections ≤ round))
    → RoundsSoFar operating connections round left number old new failed → HasRounds operating connections round old new failed
rounds_end operating connections round left number old new failed last so_far =
    record {
      rebased = so_far.rebased;
      agreed = so_far.agreed;
      fresh = so_far.fresh;
      rounds = λ counted. are_rounds (so_far.served counted) (last counted.alone) (so_far.some counted.alone);
      enough = λ alone. are_enough (so_far.taken alone) (last alone) (so_far.some alone);
      sent = so_far.sent;
    } where
      n : ℕ
      n = length so_far.rebased

      are_rounds : connections ≡ n * round + left → (left ≤ round) ⊎ (connections ≤ round) → (0 < n → 0 < left) → AreRounds connections round n
      are_rounds served (inl over) some = record { enough = omega arith; needed = λ h. (let more : 0 < left = some h in omega arith) }
      are_rounds served (inr one) some = record { enough = omega arith; needed = λ h. (let more : 0 < left = some h in omega arith) }

      are_enough : (connections ≤ n * round + left) × (n + left ≤ connections) → (left ≤ round) ⊎ (connections ≤ round) → (0 < n → 0 < left) → AreEnough connections round n
      are_enough (most, least) (inl over) some = record { enough = omega arith; used = λ h. (let more : 0 < left = some h in omega arith) }
      are_enough (most, least) (inr one) some = record { enough = omega arith; used = λ h. (let more : 0 < left = some h in omega arith) }

-- behind the address, the lines of the rebases and the last one
pub is_served : (operating : Operating) (connections round size : ℕ) (last : Contents) (old now mid new : Option (List ℕ)) (was failed : Bool) → (1 ≤ round → size ≡ round) → Announces old now → HasAgreed last
    → HasRounds operating connections size now mid was → SendsOn mid was new failed agreed_line → failed ≡ false → IsServed operating connections round old new failed
is_served operating connections round size last old now mid new was failed same announced agrees rounds agreed unfailed =
    let lines = rebased_lines rounds.rebased in
    let sent = agreed.behind now lines rounds.sent in
    record {
      unfailed = unfailed;
      address = announced.address;
      last = last;
      rebased = rounds.rebased;
      agreed = (agrees, rounds.agreed);
      fresh = rounds.fresh;
      rounds = λ counted some. subst (λ n. AreRounds connections n (length rounds.rebased)) (same some) (rounds.rounds counted);
      enough = λ alone some. subst (λ n. AreEnough connections n (length rounds.rebased)) (same some) (rounds.enough alone);
      appended = Appends-more old now new (listening_line announced.address) (lines ++ agreed_line) announced.appended (sent_whole now new failed (lines ++ agreed_line) unfailed sent);
    }

-- a server that has settled was served
pub concluded : (found : Result Contents Unsettled) (operating : Operating) (connections round size : ℕ) (is_announced settled : Bool) (old now mid new : Option (List ℕ)) (was failed : Bool)
    → (1 ≤ round → size ≡ round) → (is_announced ≡ true → Announces old now) → IfOk found HasAgreed → IfOk found (λ _. is_announced ≡ true → HasRounds operating connections size now mid was)
    → Concludes found is_announced settled mid was new failed → settled ≡ true → IsServed operating connections round old new failed
concluded (Ok v) operating connections round size is_announced settled old now mid new was failed same announced agrees rounds concludes so =
    let (told, unfailed) = concludes.agreed.0 so in
    is_served operating connections round size v old now mid new was failed same (announced told) agrees (rounds told) (concludes.told told) unfailed
concluded (Err end) operating connections round size is_announced settled old now mid new was failed same announced agrees rounds concludes so =
    absurd (true≢false (sym so ∙ concludes.ended))

-- if nobody ends the server, and this is not the last round, more are left
pub goes_on : (operating : Operating) (left size after connections round : ℕ) (last : Bool) → 1 ≤ round → size ≡ min left round → left ≤ after + size → after ≤ left → (0 < size → 0 < left → after < left)
    → (IsCounted operating → after ≡ left - size) → ((last ≡ true) ↔ ((after ≡ 0) ⊎ (connections ≤ round))) → last ≡ false → GoesOn operating round left after
goes_on operating left size after connections round last some_round takes few no_more some whole ends goes =
    let more : 0 < after = is_some after refl in
    let some_left : 0 < left = omega (arith, no_more) in
    let some_size : 0 < size = omega (arith, takes) in
    record { whole = λ counted. whole counted ∙ ap (λ n. left - n) takes; within = omega (arith, few, takes); fewer = some some_size some_left; more = more } where
      is_some : (n : ℕ) → after ≡ n → 0 < after
      is_some zero none = absurd (true≢false (sym (ends.1 (inl none)) ∙ goes))
      is_some (suc n) is = omega (arith, is)

-- if nobody ends the server, and this is the last round, it takes all that are left, or all were to be served in one
pub is_over : (left size after connections round : ℕ) (last : Bool) → size ≡ min left round → left ≤ after + size → ((last ≡ true) ↔ ((after ≡ 0) ⊎ (connections ≤ round))) → last ≡ true → (left ≤ round) ⊎ (connections ≤ round)
is_over left size after connections round last takes few ends is = by (ends.0 is) where
  by : (after ≡ 0) ⊎ (connections ≤ round) → (left ≤ round) ⊎ (connections ≤ round)
  by (inl none) = inl (omega (arith, few, takes, none))
  by (inr one) = inr one
