-- the members of a flat object, and what a table of the last of each key leads to
use Rattle.std.specs.Prelude.{◌≡◌, ◌==◌, ℕ, Bool, true, false, zero, suc, List, [], ◌∷◌, slice_index_or, IsTrue}
use Rattle.std.specs.List.{list_all}
use Rattle.serde_json.specs.Data.{Data, string, number, unsigned, object, Members, no_members, put}
use Rattle.tg_wire.specs.Inner.Keys.{is_in_set, key_place, key_text}
use Rattle.tg_wire.specs.declared.key.Key.{Key}
use Rattle.tg_wire.specs.declared.member.Plain.{Plain}
use Rattle.tg_wire.specs.declared.member.Plain.TheVariants.{Text, Escaped, Number}
use Rattle.tg_wire.specs.declared.member.Member.{Member}

abbrev pub plain_data : Plain → Data
plain_data (Text s) = string s.text.now
plain_data (Escaped s) = string s.now
plain_data (Number n) = number (unsigned n)

-- the members put in one after another, so that of equal keys the last one counts
abbrev pub put_all : List Member → Members → Members
put_all [] found = found
put_all (m ∷ ms) found = put_all ms (put (key_text m.key) (plain_data m.value) found)

abbrev pub flat_data : List Member → Data
flat_data ms = object (put_all ms no_members)

-- the number of the last member of a key, counted from 1: if the later ones have that number, and this one is of the key or not
abbrev pub counted_on : ℕ → Bool → ℕ
counted_on (suc n) is = suc (suc n)
counted_on zero true = 1
counted_on zero false = 0

-- the number of the last member of the key, counted from 1; 0 if there is none
abbrev pub last_count : Key → List Member → ℕ
last_count key [] = 0
last_count key (m ∷ ms) = counted_on (last_count key ms) (key_place m.key == key_place key)

-- the counts lead to the last member of each key
abbrev pub LeadToLast : List ℕ → List Member → Type 0
LeadToLast counts ms = (key : Key) → slice_index_or counts (key_place key) 0 ≡ last_count key ms

-- the key of each member is in the set
abbrev pub AreInSet : ℕ → List Member → Type 0
AreInSet set ms = IsTrue (list_all (λ m. is_in_set set m.key) ms)
