-- The operations on sets of letters, right by right.
use Rattle.std.proofs.Common.{◌≡◌, Bool, true, false, not, ◌&&◌, ◌||◌, refl, sym, ap, ◌∙◌}
use Rattle.std.proofs.lemmas.Bool.{and_from}
use Rattle.tg_rights.specs.Promise.Letters.{Letters, Right, read, write, take, grant, has, none, joined, without, includes, is_none, AreSetOperations}
use Rattle.tg_rights.proofs.Bools.{and_both}
use Rattle.tg_rights.proofs.BitsLemmas.{letters-number}

implied : (a b : Bool) → (not b || a) ≡ true → b ≡ true → a ≡ true
implied a true e b_is = e
implied a false e b_is = absurd (cc b_is)

implies : (a b : Bool) → (b ≡ true → a ≡ true) → (not b || a) ≡ true
implies a true f = f refl
implies a false f = refl

untrue : (a : Bool) → not a ≡ true → a ≡ false
untrue true e = sym e
untrue false e = refl

pub has_joined : (a b : Letters) (r : Right) → has (joined a b) r ≡ (has a r || has b r)
has_joined a b read = refl
has_joined a b write = refl
has_joined a b take = refl
has_joined a b grant = refl

pub has_without : (a b : Letters) (r : Right) → has (without a b) r ≡ (has a r && not (has b r))
has_without a b read = refl
has_without a b write = refl
has_without a b take = refl
has_without a b grant = refl

pub has_none : (r : Right) → has none r ≡ false
has_none read = refl
has_none write = refl
has_none take = refl
has_none grant = refl

record AllFour (a b c d : Bool) : Type 0 where
  one : a ≡ true
  two : b ≡ true
  three : c ≡ true
  four : d ≡ true

all_four : (a b c d : Bool) → (a && b && c && d) ≡ true → AllFour a b c d
all_four a b c d e =
    let three = and_both (a && b && c) d e in
    let two = and_both (a && b) c three.0 in
    let one = and_both a b two.0 in
    record { one = one.0; two = one.1; three = two.1; four = three.1 }

from_all : {a b c d : Bool} → a ≡ true → b ≡ true → c ≡ true → d ≡ true → (a && b && c && d) ≡ true
from_all e f g h = and_from _ _ (and_from _ _ (and_from _ _ e f) g) h

included : (a b : Letters) → includes a b ≡ true → (r : Right) → has b r ≡ true → has a r ≡ true
included a b e = each (all_four (not b.read || a.read) (not b.write || a.write) (not b.take || a.take) (not b.grant || a.grant) e) where
  each : AllFour (not b.read || a.read) (not b.write || a.write) (not b.take || a.take) (not b.grant || a.grant) → (r : Right) → has b r ≡ true → has a r ≡ true
  each all read = implied a.read b.read all.one
  each all write = implied a.write b.write all.two
  each all take = implied a.take b.take all.three
  each all grant = implied a.grant b.grant all.four

including : (a b : Letters) → ((r : Right) → has b r ≡ true → has a r ≡ true) → includes a b ≡ true
including a b f =
    from_all (implies a.read b.read (f read)) (implies a.write b.write (f write)) (implies a.take b.take (f take)) (implies a.grant b.grant (f grant))

nothing_there : (a : Letters) → is_none a ≡ true → (r : Right) → has a r ≡ false
nothing_there a e = each (all_four (not a.read) (not a.write) (not a.take) (not a.grant) e) where
  each : AllFour (not a.read) (not a.write) (not a.take) (not a.grant) → (r : Right) → has a r ≡ false
  each all read = untrue a.read all.one
  each all write = untrue a.write all.two
  each all take = untrue a.take all.three
  each all grant = untrue a.grant all.four

lacking : (a : Letters) → ((r : Right) → has a r ≡ false) → is_none a ≡ true
lacking a f = from_all (ap not (f read)) (ap not (f write)) (ap not (f take)) (ap not (f grant))

pub some_right : (a : Letters) → is_none a ≡ false → (r : Right) × (has a r ≡ true)
some_right a e = by a.read a.write a.take a.grant e where
  by : (r w t g : Bool) → (not r && not w && not t && not g) ≡ false → (s : Right) × (has (record { read = r; write = w; take = t; grant = g }) s ≡ true)
  by true w t g e = (read, refl)
  by false true t g e = (write, refl)
  by false false true g e = (take, refl)
  by false false false true e = (grant, refl)
  by false false false false e = absurd (cc e)

pub right_some : (a : Letters) (r : Right) → has a r ≡ true → is_none a ≡ false
right_some a r h = by (is_none a) refl where
  by : (b : Bool) → is_none a ≡ b → b ≡ false
  by true e = absurd (cc (sym h ∙ nothing_there a e r))
  by false e = refl

pub is_none-none : (a : Letters) → is_none a ≡ true → a ≡ none
is_none-none a e = λ i. record { read = nothing_there a e read i; write = nothing_there a e write i; take = nothing_there a e take i; grant = nothing_there a e grant i }

pub are_set_operations : AreSetOperations
are_set_operations = record {
  union = has_joined;
  difference = has_without;
  nothing = has_none;
  inclusion = λ a b. (included a b, including a b);
  emptiness = λ a. (nothing_there a, lacking a);
  numbering = letters-number;
}
