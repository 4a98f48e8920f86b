-- how a line is read: the checks in their order, each over the whole line
use Rattle.std.specs.Prelude.{ℕ, List, [], ◌∷◌, ◌++◌, ◌≡◌, length, Bool, true, false, Option, Some, None, is_some, Result, Ok, Err, nat_le, if◌then◌else◌}
use Rattle.std.specs.List.{list_all, list_any}
use Rattle.std.specs.Str.{bytes_eq, is_utf8}
use Rattle.serde_json.specs.Data.{Data, null, boolean, number, string, array, object, Members, no_members, member}
use Rattle.serde_json.specs.Find.{get, as_object}
use Rattle.serde_json.specs.Read.{read}
use Rattle.tg_wire.specs.declared.fault.WireFault.{WireFault}
use Rattle.tg_wire.specs.declared.fault.WireFault.TheVariants.{NotJson, NotObject, MissingField, BadField, UnknownField, TooLong, OutOfMemory}

infixl 10 ◌>>=◌
abbrev pub ◌>>=◌ : {A B : Type 0} → Result A WireFault → (A → Result B WireFault) → Result B WireFault
(Ok x) >>= f = f x
(Err e) >>= f = Err e

abbrev pub or_else : {A : Type 0} → WireFault → Option A → Result A WireFault
or_else e None = Err e
or_else e (Some x) = Ok x

abbrev pub guard : Bool → WireFault → Result (Unit {0}) WireFault
guard true e = Ok tt
guard false e = Err e

-- the value of a text in JSON
abbrev pub json_of : List ℕ → Option Data
json_of bytes = if is_utf8 bytes then read bytes else None

-- the object that a text is
abbrev pub json_object : List ℕ → Result Data WireFault
json_object bytes = do
  d ← or_else NotJson (json_of bytes)
  _ ← or_else NotObject (as_object d)
  Ok d

-- the object of a line
abbrev pub object_of : List ℕ → Result Data WireFault
object_of bytes = do
  _ ← guard (nat_le (length bytes) 16384) TooLong
  json_object bytes

-- each name is there, with any value
abbrev pub has_all : List (List ℕ) → Data → Bool
has_all names d = list_all (λ name. is_some (get name d)) names

abbrev pub member_keys : Members → List (List ℕ)
member_keys no_members = []
member_keys (member key d ms) = key ∷ member_keys ms

abbrev pub keys_in : Data → List (List ℕ)
keys_in null = []
keys_in (boolean b) = []
keys_in (number n) = []
keys_in (string s) = []
keys_in (array ds) = []
keys_in (object ms) = member_keys ms

abbrev pub is_among : List (List ℕ) → List ℕ → Bool
is_among names key = list_any (bytes_eq key) names

-- each key is one of the names
abbrev pub knows_all : List (List ℕ) → Data → Bool
knows_all names d = list_all (is_among names) (keys_in d)

-- the value of an object that has the required fields, and of other fields only these
abbrev pub fields_of : {A : Type 0} → List (List ℕ) → List (List ℕ) → (Data → Option A) → Data → Result A WireFault
fields_of required others value d = do
  _ ← guard (has_all required d) MissingField
  x ← or_else BadField (value d)
  _ ← guard (knows_all (others ++ required) d) UnknownField
  Ok x

-- the result is the definition's, unless memory ran out
abbrev pub Answers : {A : Type 0} → Result A WireFault → Result A WireFault → Type 0
Answers (Ok x) r = r ≡ Ok x
Answers (Err OutOfMemory) r = Unit {0}
Answers (Err e) r = r ≡ Err e

-- the same for a value of the code, seen by `view`
abbrev pub AnswersBy : {V A : Type 0} → (V → A) → Result V WireFault → Result A WireFault → Type 0
AnswersBy view (Ok v) r = r ≡ Ok (view v)
AnswersBy view (Err OutOfMemory) r = Unit {0}
AnswersBy view (Err e) r = r ≡ Err e

-- the value that was put into its place, or why none was
abbrev pub filled : {U A : Type 0} → Result U WireFault → A → Result A WireFault
filled (Ok u) value = Ok value
filled (Err fault) value = Err fault
