-- what a name is
use Rattle.std.specs.Prelude.{ℕ, Bool, ◌&&◌, nat_le, List, length}
use Rattle.std.specs.List.{list_all}
use Rattle.tg_rights.specs.declared.name.TheConstants.{MAX_NAME}

-- 1 to 32 bytes of a to z
abbrev pub is_name : List ℕ → Bool
is_name name = nat_le 1 (length name) && nat_le (length name) MAX_NAME && list_all (λ b. nat_le 97 b && nat_le b 122) name
