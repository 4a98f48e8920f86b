-- which of these answers are `error` lines
use Rattle.std.specs.Prelude.{Bool, true, false}
use Rattle.tg_wire.specs.declared.unshared.Unshared.{Unshared}
use Rattle.tg_wire.specs.declared.unshared.Unshared.TheVariants.{Never, NoPrincipal, NoRights, NoSerial, NoVertex, TooMuch}

-- the line is an `error` line
abbrev pub is_error : Unshared → Bool
is_error Never = false
is_error NoSerial = false
is_error (NoVertex n) = true
is_error NoPrincipal = true
is_error NoRights = true
is_error TooMuch = true
