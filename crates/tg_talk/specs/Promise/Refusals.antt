-- refusals that are no `WireFault`, each as its line
use Rattle.std.specs.Prelude.{ℕ, List, codes}
use Rattle.tg_wire.specs.Promise.Faults.{line_text, error_data}

-- the line that answers the line after the millionth
unfoldable pub too_many_line : List ℕ
too_many_line = line_text (error_data (codes "too many lines"))

-- the line that answers, in a talk, a line of the shade or the collector
unfoldable pub not_for_a_session_line : List ℕ
not_for_a_session_line = line_text (error_data (codes "not for a session"))
