-- An entry has one actor.
use Rattle.std.proofs.Common.{ℕ, Option, ap, sym, ◌∙◌}
use Rattle.std.specs.Option.{option_map_or}
use Rattle.tg_share.specs.Promise.Reached.{OneActor}

pub one_actor : OneActor
one_actor v w a b first second = ap (λ (o : Option ℕ). option_map_or (λ n. n) o 0) (sym first ∙ second)
