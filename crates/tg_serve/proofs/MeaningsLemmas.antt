-- The server in other words.
use Rattle.std.proofs.Common.{◌≡◌, ◌<◌, ℕ, zero, suc, slice_get, ap, subst, arith}
use Rattle.tg_vault.proofs.MeaningsLemmas.{rebased_means}
use Rattle.tg_serve.specs.Promise.Meanings.{ServersMean}
use Rattle.tg_serve.specs.Promise.Serving.{AreEnough, AreRounds, HaveRebased}

rounds : (full : ℕ) → AreRounds 10 3 full → full ≡ 3
rounds zero r = (let few = r.enough in absurd (omega (arith, few)))
rounds (suc full) r = (let few = r.enough in let many = r.needed (omega arith) in omega (arith, few, many))

below : (full : ℕ) → AreEnough 10 3 full → full < 10
below zero r = omega arith
below (suc full) r = r.used (omega arith)

pub servers_mean : ServersMean
servers_mean = record {
  rounds = rounds;
  enough = λ full r. (let few = r.enough in (omega (arith, few), below full r));
  differs = λ seat index h. (h.vault, h.logs, λ agrees. h.place.here.1 (ap (λ xs. slice_get xs index) agrees));
  unfailed = λ operating connections round old new served. (let wrong = served.unfailed in absurd (cc wrong));
  rights = λ operating connections round old new failed served v vs is.
      let first = (subst HaveRebased is served.fresh).0 in
      (first.fresh, λ x y active. (rebased_means v first.fresh).rights first.rebased x y active);
}
