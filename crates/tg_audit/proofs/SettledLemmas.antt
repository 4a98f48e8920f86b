-- What is given back when logs were settled.
use Rattle.std.proofs.Common.{sym, subst}
use Rattle.tg_audit.specs.declared.logs.Settled.TheVariants as settled
use Rattle.tg_audit.specs.Promise.Laws.{PlacesStay}
use Rattle.tg_audit.specs.Promise.Settling.{IsPlace}

pub places_stay : PlacesStay
places_stay v logs (settled.Agreed w) p s place = subst (λ u. IsPlace u logs p) (sym s.0) place
places_stay v logs (settled.Differs w back seat index) p s place = subst (λ u. IsPlace u back.items p) (sym s.0) (subst (λ l. IsPlace v l p) (sym s.1) place)
places_stay v logs (settled.NoMemory w back) p s place = subst (λ u. IsPlace u back.items p) (sym s.0) (subst (λ l. IsPlace v l p) (sym s.1) place)
