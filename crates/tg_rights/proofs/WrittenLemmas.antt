-- Rights are read back from their letters.
use Rattle.std.proofs.Common.{◌≡◌, Bool, true, false, Some, refl}
use Rattle.tg_rights.specs.Promise.Letters.{Letters}
use Rattle.tg_rights.specs.Promise.Written.{rights_of, rights_text}

read_back : (r w t g : Bool) → rights_of (rights_text (record { read = r; write = w; take = t; grant = g })) ≡ Some (record { read = r; write = w; take = t; grant = g })
read_back false false false false = refl
read_back false false false true = refl
read_back false false true false = refl
read_back false false true true = refl
read_back false true false false = refl
read_back false true false true = refl
read_back false true true false = refl
read_back false true true true = refl
read_back true false false false = refl
read_back true false false true = refl
read_back true false true false = refl
read_back true false true true = refl
read_back true true false false = refl
read_back true true false true = refl
read_back true true true false = refl
read_back true true true true = refl

pub rights_of-text : (r : Letters) → rights_of (rights_text r) ≡ Some r
rights_of-text r = read_back r.read r.write r.take r.grant
