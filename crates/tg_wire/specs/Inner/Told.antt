-- the values of the fields of a line that is written
use Rattle.std.specs.Prelude.{ℕ, List, [], ◌∷◌, ◌++◌, Bool, true, if◌then◌else◌}
use Rattle.std.specs.Borrow.{Bor}
use Rattle.serde_json.specs.Data.{Data, string, number, unsigned, array, Members, no_members, member}
use Rattle.serde_json.specs.Written.{comma_if, compact_text}
use Rattle.tg_rights.specs.Promise.Written.{rights_text}
use Rattle.tg_rights.specs.Promise.Letters.{Letters}
use Rattle.tg_wire.specs.Promise.Replies.{edge_data, edges_data}
use Rattle.tg_wire.specs.declared.object_line.Told.{Told}
use Rattle.tg_wire.specs.declared.object_line.Told.TheVariants as told

abbrev pub told_data : Told → Data
told_data (told.Number n) = number (unsigned n)
told_data (told.Word text) = string text.now
told_data (told.Letters rights) = string (rights_text rights)
told_data (told.Edges es) = array (edges_data es.now)

-- the members in the order of the fields
abbrev pub told_members : List (Bor (List ℕ) × Told) → Members
told_members [] = no_members
told_members (f ∷ fs) = member f.0.now (told_data f.1) (told_members fs)

-- the line of an object that begins with these bytes, and ends with this value
abbrev pub led_text : List ℕ → Data → List ℕ
led_text lead d = lead ++ ((compact_text d ++ 125 ∷ []) ++ 10 ∷ [])

-- a byte, if it is shown
abbrev pub byte_if : Bool → ℕ → List ℕ
byte_if shown byte = if shown then byte ∷ [] else []

-- edges with a comma between two, and before the first if others precede them
abbrev pub edges_text : Bool → List (ℕ × Letters) → List ℕ
edges_text later [] = []
edges_text later (e ∷ es) = comma_if later ++ (compact_text (edge_data e) ++ edges_text true es)
