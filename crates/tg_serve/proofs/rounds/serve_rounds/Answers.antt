use Rattle.std.proofs.Common.{◌≡◌, ◌<◌, ◌≤◌, ◌+◌, ℕ, IfOk, IfSome, arith, inl, subst, sym}
use Rattle.tg_vault.specs.Promise.Contents.{graph_now}
use Rattle.tg_talk.specs.Promise.Devices.{device_of, has_failed}
use Rattle.tg_serve.specs.Promise.Serving.{HasAgreed, IsAlone}
use Rattle.tg_serve.proofs.RoundsLemmas.{GoesOn, RoundsSoFar, goes_on, is_over, rounds_end, rounds_go_on, rounds_none}
use Rattle.tg_serve.proofs.rounds.serve_rounds.Goals as goal

pub rounds-init : goal.rounds-init
rounds-init g c = record { empty = c.requires.empty; few = λ alone. omega arith; so_far = λ told. rounds_none _ _ _ _ _ }

pub rebase-requires : goal.rebase-requires
rebase-requires g c = subst (λ r. IfOk r (λ settled. IfSome c.serve_round-found.result.2 (λ graph. graph ≡ graph_now settled))) c.in-Ok.is c.serve_round-found.ensures.graph

pub rounds-preserved : goal.rounds-preserved
rounds-preserved g c =
    let operating = c.args.service.now.operating in
    let round = c.args.round in
    let left = c.rounds.left in
    let after = c.left_after-left.result in
    let next : c.in-Some-checked_add.next ≡ c.rounds.number + 1 = c.in-Some-checked_add.ensures.1 in
    let more : IsAlone operating → GoesOn operating round left after = λ alone.
    goes_on operating left c.size_of-size.result after c.args.connections round c.is_last.result c.requires.some (c.size_of-size.ensures.ends alone.ends) c.left_after-left.ensures.few c.left_after-left.ensures.no_more (c.left_after-left.ensures.some alone)
    c.left_after-left.ensures.counted (c.is_last.ensures alone) c.if-is_last.false
    in
    record {
      empty = c.in_ok-fresh.ensures.fresh.history;
      few = λ alone. (
          let few : c.rounds.number + left ≤ c.args.connections + 1 = c.rounds.invariant.few alone in
          let fewer : after < left = (more alone).fewer in
          omega (arith, next));
      so_far = λ told.
          subst (λ (n : ℕ). RoundsSoFar operating c.args.connections round after n (g.W.Write.contents (device_of c.args.writer.now)) (g.W.Write.contents (device_of c.rebase.new.writer)) (has_failed c.rebase.new.writer)) (sym next)
          (rounds_go_on _ _ _ _ _ _ c.in-Ok.settled c.in_ok-fresh.fresh.vault _ _ _ _ _ more (c.rounds.invariant.so_far told) (subst (λ r. IfOk r HasAgreed) c.in-Ok.is c.serve_round-found.ensures.agreed) c.in_ok-fresh.ensures.fresh (c.in_ok-fresh.ensures.told told));
    }

pub returns-then-is_last-clause-told : goal.returns-then-is_last-clause-told
returns-then-is_last-clause-told g c = λ told.
    rounds_end _ _ _ _ _ _ _ _
    (λ alone. is_over c.rounds.left c.size_of-size.result c.left_after-left.result c.args.connections c.args.round c.is_last.result (c.size_of-size.ensures.ends alone.ends) c.left_after-left.ensures.few (c.is_last.ensures alone) c.if-is_last.true)
    (c.rounds.invariant.so_far told)

pub returns-in_default-clause-told : goal.returns-in_default-clause-told
returns-in_default-clause-told g c = λ told.
    rounds_end _ _ _ _ _ _ _ _
    (λ alone. inl (
    let few : c.rounds.number + c.rounds.left ≤ c.args.connections + 1 = c.rounds.invariant.few alone in
    let fits = c.ranges.connections.fits in
    let over = c.in_default.ensures in
    let some = c.requires.some in
    omega (arith, few, fits, over, some)
    ))
    (c.rounds.invariant.so_far told)
