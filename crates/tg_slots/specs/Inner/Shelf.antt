-- the slots that two columns represent
use Rattle.std.specs.Prelude.{◌≡◌, ℕ, Bool, true, false, map, List, Option, Some, None}
use Rattle.tg_rights.specs.declared.kind.Kind.{Kind}
use Rattle.tg_slots.specs.declared.colour.Colour.{Colour}
use Rattle.tg_slots.specs.declared.colour.Colour.TheVariants as colour
use Rattle.tg_slots.specs.declared.shelf.Tint.{Tint}
use Rattle.tg_slots.specs.declared.shelf.Tint.TheVariants as tint
use Rattle.tg_slots.specs.declared.shelf.Lead.{Lead}
use Rattle.tg_slots.specs.declared.shelf.Form.{Form}
use Rattle.tg_slots.specs.declared.shelf.Form.TheVariants as form
use Rattle.tg_slots.specs.declared.shelf.Shelf.TheInside.{Inside}
use Rattle.tg_slots.specs.Inner.Linked.{Linked, Shelved}

abbrev pub tint_of : Colour → Tint
tint_of colour.White = tint.White
tint_of colour.Grey = tint.Grey
tint_of colour.Black = tint.Black

abbrev pub colour_of : Tint → Option Colour
colour_of tint.Free = None
colour_of tint.White = Some colour.White
colour_of tint.Grey = Some colour.Grey
colour_of tint.Black = Some colour.Black

-- the colour of a vertex whose slot has this tint
abbrev pub shade_of : Tint → Colour
shade_of tint.Free = colour.White
shade_of tint.White = colour.White
shade_of tint.Grey = colour.Grey
shade_of tint.Black = colour.Black

-- the fields of what else a slot holds, and what it is once the text has changed
abbrev pub form_serial : Form → Option ℕ
form_serial form.Free = None
form_serial (form.Taken kind serial text) = Some serial

abbrev pub form_kind : Form → Option Kind
form_kind form.Free = None
form_kind (form.Taken kind serial text) = Some kind

abbrev pub form_text : Form → Option (List ℕ)
form_text form.Free = None
form_text (form.Taken kind serial text) = Some text

abbrev pub telling : Form → List ℕ → Form
telling form.Free new = form.Free
telling (form.Taken kind serial text) new = form.Taken kind serial new

-- whether a slot has a vertex, by its tint and by what else it holds
abbrev pub is_coloured : Tint → Bool
is_coloured tint.Free = false
is_coloured tint.White = true
is_coloured tint.Grey = true
is_coloured tint.Black = true

abbrev pub is_filled : Form → Bool
is_filled form.Free = false
is_filled (form.Taken kind serial text) = true

abbrev pub linked : Lead → Form → Linked
linked l form.Free = record { occupant = None; link = l.link }
linked l (form.Taken kind serial text) = record { occupant = Some (record { serial = serial; kind = kind; colour = shade_of l.tint; text = text }); link = l.link }

abbrev pub all_linked : List (Lead × Form) → List Linked
all_linked ps = map (λ p. linked p.0 p.1) ps

abbrev pub shelved : Inside → Shelved
shelved s = record { items = all_linked s.slots.items; room = s.slots.room }

-- a slot has a vertex by its tint if it has one by what else it holds
abbrev pub IsMatched : Lead × Form → Type 0
IsMatched p = is_coloured p.0.tint ≡ is_filled p.1
