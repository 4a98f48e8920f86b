-- the fields of a line: what each must hold
use Rattle.std.specs.Prelude.{ℕ, ◌+◌, List, [], ◌∷◌, length, Option, Some, None, option_and_then, option_map, if◌then◌else◌, nat_le, codes}
use Rattle.std.specs.Str.{bytes_eq}
use Rattle.serde_json.specs.Data.{Data, Items, no_items, item}
use Rattle.serde_json.specs.Find.{get, as_number, as_str, as_u64, as_array}
use Rattle.tg_rights.specs.Promise.Letters.{Letters}
use Rattle.tg_rights.specs.Promise.Name.{is_name}
use Rattle.tg_rights.specs.Promise.Written.{rights_of}
use Rattle.tg_rights.specs.declared.kind.Kind.{Kind}
use Rattle.tg_rights.specs.declared.kind.Kind.TheVariants.{Subject, Document}

infixl 10 ◌>>=◌
abbrev pub ◌>>=◌ : {A B : Type 0} → Option A → (A → Option B) → Option B
o >>= f = option_and_then f o

abbrev pub kind_named : List ℕ → Option Kind
kind_named text = if bytes_eq text (codes "subject") then Some Subject else (if bytes_eq text (codes "document") then Some Document else None)

-- a text that a document may have
abbrev pub short_text : List ℕ → Option (List ℕ)
short_text text = if nat_le (length text) 4096 then Some text else None

-- a text that a principal may have as its name
abbrev pub name_of : List ℕ → Option (List ℕ)
name_of text = if is_name text then Some text else None

-- ---- values

abbrev pub number_value : Data → Option ℕ
number_value d = option_and_then as_u64 (as_number d)

abbrev pub rights_value : Data → Option Letters
rights_value d = option_and_then rights_of (as_str d)

abbrev pub texts_of : Items → Option (List (List ℕ))
texts_of no_items = Some []
texts_of (item d ds) = option_and_then (λ t. option_map (λ ts. t ∷ ts) (texts_of ds)) (as_str d)

-- the items of a list of three
abbrev pub three_of : Items → Option (Data × Data × Data)
three_of (item a (item b (item c no_items))) = Some (a, b, c)
three_of _ = None

abbrev pub three_in : Data → Option (Data × Data × Data)
three_in d = option_and_then three_of (as_array d)

-- an edge as [number, rights, number]
abbrev pub edge_value : Data → Option (ℕ × Letters × ℕ)
edge_value d = do
  three ← three_in d
  from ← number_value three.0
  rights ← rights_value three.1
  to ← number_value three.2
  Some (from, rights, to)

abbrev pub read_edges : Items → Option (List (ℕ × Letters × ℕ))
read_edges no_items = Some []
read_edges (item d ds) = option_and_then (λ e. option_map (λ es. e ∷ es) (read_edges ds)) (edge_value d)

-- ---- fields that have to be there

abbrev pub number_in : List ℕ → Data → Option ℕ
number_in name d = option_and_then number_value (get name d)

abbrev pub string_in : List ℕ → Data → Option (List ℕ)
string_in name d = option_and_then as_str (get name d)

abbrev pub rights_in : Data → Option Letters
rights_in d = option_and_then rights_value (get (codes "rights") d)

abbrev pub kind_in : Data → Option Kind
kind_in d = option_and_then kind_named (string_in (codes "kind") d)

abbrev pub text_field : Data → Option (List ℕ)
text_field d = option_and_then short_text (string_in (codes "text") d)

abbrev pub name_field : Data → Option (List ℕ)
name_field d = option_and_then name_of (string_in (codes "name") d)

abbrev pub texts_in : List ℕ → Data → Option (List (List ℕ))
texts_in name d = option_and_then texts_of (option_and_then as_array (get name d))

-- ---- fields that may be absent; one that is given has to be good

abbrev pub number_or : ℕ → Option Data → Option ℕ
number_or default None = Some default
number_or default (Some d) = number_value d

abbrev pub optional_number : List ℕ → ℕ → Data → Option ℕ
optional_number name default d = number_or default (get name d)

abbrev pub edges_or_none : Option Data → Option (List (ℕ × Letters × ℕ))
edges_or_none None = Some []
edges_or_none (Some d) = option_and_then read_edges (as_array d)

abbrev pub edges_in : Data → Option (List (ℕ × Letters × ℕ))
edges_in d = edges_or_none (get (codes "edges") d)

-- the table of optional fields: each with its value if it is absent
abbrev pub seat_in : Data → Option ℕ
seat_in d = optional_number (codes "seat") 0 d

abbrev pub next_in : ℕ → Data → Option ℕ
next_in principals d = optional_number (codes "next") (principals + 1) d

abbrev pub slots_in : Data → Option ℕ
slots_in d = optional_number (codes "slots") 1024 d

abbrev pub cells_in : Data → Option ℕ
cells_in d = optional_number (codes "cells") 16384 d
