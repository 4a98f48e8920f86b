-- the answers to whether rights can ever be shared that bring no steps, as JSON, and the one line of each
use Rattle.std.specs.Prelude.{ℕ, List, codes}
use Rattle.serde_json.specs.Data.{Data, array, string, number, unsigned, object, no_members, member}
use Rattle.tg_rights.specs.Promise.Letters.{Letters}
use Rattle.tg_wire.specs.Promise.Faults.{error_data, line_text}
use Rattle.tg_wire.specs.Promise.Replies.{edges_data}
use Rattle.tg_wire.specs.declared.unshared.Unshared.{Unshared}
use Rattle.tg_wire.specs.declared.unshared.Unshared.TheVariants.{Never, NoPrincipal, NoRights, NoSerial, NoVertex, TooMuch}

abbrev pub unshared_data : Unshared → Data
unshared_data Never = object (member (codes "verdict") (string (codes "never")) no_members)
unshared_data NoSerial = object (member (codes "verdict") (string (codes "no serial")) no_members)
unshared_data (NoVertex n) = object (member (codes "error") (string (codes "no vertex")) (member (codes "vertex") (number (unsigned n)) no_members))
unshared_data NoPrincipal = error_data (codes "no principal")
unshared_data NoRights = error_data (codes "no rights")
unshared_data TooMuch = error_data (codes "too much")

unfoldable pub unshared_line : Unshared → List ℕ
unshared_line u = line_text (unshared_data u)

-- the vertices of which rights can be shared, each with those of the rights that are there
abbrev pub could_data : List (ℕ × Letters) → Data
could_data could = object (member (codes "could") (array (edges_data could)) no_members)

unfoldable pub could_line : List (ℕ × Letters) → List ℕ
could_line could = line_text (could_data could)
