-- rights as they are written: the letters r, w, t and g
use Rattle.std.specs.Prelude.{ℕ, ◌&&◌, ◌||◌, ◌==◌, ◌++◌, List, [], Bool, nat_le, count_by, codes, if◌then◌else◌, Option, Some, None}
use Rattle.std.specs.List.{list_all, list_any}
use Rattle.tg_rights.specs.Promise.Letters.{Letters}

-- r, w, t or g
abbrev pub is_letter : ℕ → Bool
is_letter c = (c == 114) || (c == 119) || (c == 116) || (c == 103)

abbrev pub is_at_most_once : ℕ → List ℕ → Bool
is_at_most_once letter text = nat_le (count_by (λ c. c == letter) text) 1

abbrev pub has_letter : ℕ → List ℕ → Bool
has_letter letter text = list_any (λ c. c == letter) text

-- only letters of rights, each at most once, in any order
abbrev pub are_rights : List ℕ → Bool
are_rights text =
    list_all is_letter text && is_at_most_once 114 text && is_at_most_once 119 text && is_at_most_once 116 text && is_at_most_once 103 text

-- the rights whose letters are in the text
abbrev pub rights_named : List ℕ → Letters
rights_named text = record { read = has_letter 114 text; write = has_letter 119 text; take = has_letter 116 text; grant = has_letter 103 text }

-- the rights that a text writes, if it writes any
abbrev pub rights_of : List ℕ → Option Letters
rights_of text = if are_rights text then Some (rights_named text) else None

-- in the order r, w, t, g
abbrev pub rights_text : Letters → List ℕ
rights_text r = (if r.read then codes "r" else []) ++ (if r.write then codes "w" else []) ++ (if r.take then codes "t" else []) ++ (if r.grant then codes "g" else [])
