-- Lines taken one after another: what is known of the bytes at the front.
use Rattle.std.proofs.Common.{◌≡◌, ℕ, ◌+◌, ◌<◌, ◌≤◌, List, [], ◌∷◌, ◌++◌, length, Option, None, Some, ◌⊎◌, inl, inr, subst, IfSome, refl, sym, ap, ◌∙◌, append-nil, append_assoc, take, drop, take_all, drop_of_length-le, le_refl, arith, false}
use Rattle.std.proofs.Math.Nat.{eq-or-lt_of_le}
use Rattle.std.specs.Io.KnownBytes.{Keeps, IsAtEnd, prepend_known}
use Rattle.tg_talk.specs.declared.input_lines.Next.{Next}
use Rattle.tg_talk.specs.declared.input_lines.Next.TheVariants as next
use Rattle.tg_talk.specs.declared.line_buffer.TheConstants.{MOST_LINES}
use Rattle.tg_wire.specs.declared.line.TheConstants.{LONGEST_LINE}
use Rattle.tg_talk.specs.Promise.InputLines.{lines_of, has_newline, IsFirstNewline}
use Rattle.tg_talk.specs.Promise.Taking.{Input, TakesLine, Takes}
use Rattle.tg_talk.proofs.InputLinesLemmas.{Longer, lines_of-line, lines_of-last}

-- ---- known bytes

pub weaker : (o : Option (List ℕ)) (P Q : List ℕ → Type 0) → IfSome o P → ((xs : List ℕ) → P xs → Q xs) → IfSome o Q
weaker None P Q h f = tt
weaker (Some xs) P Q h f = f xs h

pub always : (o : Option (List ℕ)) (Q : List ℕ → Type 0) → ((xs : List ℕ) → Q xs) → IfSome o Q
always None Q f = tt
always (Some xs) Q f = f xs

pub told_at : (o : Option (List ℕ)) (xs : List ℕ) (P : List ℕ → Type 0) → o ≡ Some xs → IfSome o P → P xs
told_at o xs P e h = subst (λ k. IfSome k P) e h

-- what is next in an input of which nothing was read is next in the bytes of the reader
pub at_start : (o : Option (List ℕ)) (input : Input) (P Q : List ℕ → Type 0) → input ≡ record { taken = 0; line = []; left = [] } → IfSome (prepend_known input.left o) P → ((xs : List ℕ) → P xs → Q xs) → IfSome o Q
at_start None input P Q none h f = tt
at_start (Some xs) input P Q none h f = f xs (subst (λ (i : Input). IfSome (prepend_known i.left (Some xs)) P) none h)

-- the bytes that were to come are those of the buffer, and those that are left
abbrev pub SplitsAt : List ℕ → Option (List ℕ) → List ℕ → Type 0
SplitsAt buffer rest xs = (r : List ℕ) × (rest ≡ Some r) × (xs ≡ buffer ++ r)

splits_some : (xs buffer : List ℕ) (rest : Option (List ℕ)) → Keeps (Some xs) (prepend_known buffer rest) → SplitsAt buffer rest xs
splits_some xs buffer None k = absurd k
splits_some xs buffer (Some r) k = (r, refl, sym k)

pub splits : (o : Option (List ℕ)) (buffer : List ℕ) (rest : Option (List ℕ)) → Keeps o (prepend_known buffer rest) → IfSome o (SplitsAt buffer rest)
splits None buffer rest k = tt
splits (Some xs) buffer rest k = splits_some xs buffer rest k

-- what holds whenever the bytes split in this way, holds of the bytes that were to come
pub by_split : (o : Option (List ℕ)) (buffer : List ℕ) (rest : Option (List ℕ)) (Q : List ℕ → Type 0) → Keeps o (prepend_known buffer rest)
    → ((xs r : List ℕ) → rest ≡ Some r → xs ≡ buffer ++ r → Q xs) → IfSome o Q
by_split o buffer rest Q kept f = weaker o (SplitsAt buffer rest) Q (splits o buffer rest kept) (λ xs (r, is, split). f xs r is split)

-- the bytes that were to come, with an empty front before them
pub by_drop : (o : Option (List ℕ)) (front buffer : List ℕ) (rest : Option (List ℕ)) (Q : List ℕ → Type 0) (left : List ℕ) → front ≡ left → Keeps (prepend_known front o) (prepend_known buffer rest)
    → ((xs r : List ℕ) → rest ≡ Some r → xs ≡ buffer ++ r → Q xs) → IfSome (prepend_known left o) Q
by_drop o front buffer rest Q left same kept f = subst (λ l. IfSome (prepend_known l o) Q) same (by_split (prepend_known front o) buffer rest Q kept f)

-- ---- lines

none_some : (r : List ℕ) → None ≡ Some r → ⊥
none_some r e = cc

some_eq : (x r : List ℕ) → Some x ≡ Some r → x ≡ r
some_eq x r e = cc

pub end_of : (rest : Option (List ℕ)) (r : List ℕ) → IsAtEnd rest → rest ≡ Some r → r ≡ []
end_of None r h e = absurd (none_some r e)
end_of (Some x) r h e = sym (some_eq x r e) ∙ h

left_after : (new front : List ℕ) (rest : Option (List ℕ)) (r : List ℕ) → new ≡ front → rest ≡ Some r → prepend_known new rest ≡ Some (front ++ r)
left_after new front rest r same e = rw (e, same) refl

-- a line and its line feed at the front
pub front_line : (buffer r xs : List ℕ) (n : ℕ) (rest : Option (List ℕ)) → IsFirstNewline buffer n → rest ≡ Some r → xs ≡ buffer ++ r → TakesLine (take n buffer) xs (prepend_known (drop (n + 1) buffer) rest)
front_line buffer r xs n rest found is split =
    let whole : xs ≡ take n buffer ++ 10 ∷ (drop (n + 1) buffer ++ r) = split ∙ ap (λ b. b ++ r) found.split ∙ append_assoc (take n buffer) (10 ∷ drop (n + 1) buffer) r in
    record {
      rest = drop (n + 1) buffer ++ r;
      unread = left_after (drop (n + 1) buffer) (drop (n + 1) buffer) rest r refl is;
      taken = rw whole (lines_of-line (take n buffer) (drop (n + 1) buffer ++ r) found.none);
    }

-- the last line, which has none, is all that is there
pub last_line : (buffer r xs : List ℕ) (n : ℕ) (rest : Option (List ℕ)) → n ≡ length buffer → has_newline buffer ≡ false → 0 < length buffer → r ≡ [] → rest ≡ Some r → xs ≡ buffer ++ r
    → TakesLine (take n buffer) xs (prepend_known (drop n buffer) rest)
unfolding lines_of
last_line buffer r xs n rest all none some over is split =
    let whole : xs ≡ buffer = split ∙ ap (λ l. buffer ++ l) over ∙ append-nil buffer in
    record {
      rest = [];
      unread = rw (is, over, all, drop_of_length-le buffer (le_refl (length buffer))) refl;
      taken = rw (whole, all, take_all (length buffer) buffer (omega arith)) (lines_of-last buffer none some);
    }

-- ---- what is next

most : (n : ℕ) → n ≤ MOST_LINES → (n ≡ MOST_LINES) ⊎ (n < MOST_LINES)
most n h = eq-or-lt_of_le h

-- the number of lines taken may be known by another name
pub takes_line : (r : Next) (n m : ℕ) (line : List ℕ) (left : Option (List ℕ)) (xs : List ℕ) → m ≡ n → n ≤ MOST_LINES → (m < MOST_LINES → r ≡ next.Line) → (m ≡ MOST_LINES → r ≡ next.TooMany)
    → TakesLine line xs left → Takes r n line left xs
takes_line r n m line left xs same h within over takes = go (most n h)
  where
    go : (n ≡ MOST_LINES) ⊎ (n < MOST_LINES) → Takes r n line left xs
    go (inr few) = rw (within (rw same few)) (few, takes)
    go (inl full) = rw (over (rw same full)) (full, (line, record { others = lines_of takes.rest; split = takes.taken }))

pub takes_long : (r : Next) (n m : ℕ) (line : List ℕ) (left : Option (List ℕ)) (xs : List ℕ) → m ≡ n → n ≤ MOST_LINES → (m < MOST_LINES → r ≡ next.TooLong) → (m ≡ MOST_LINES → r ≡ next.TooMany)
    → Longer xs LONGEST_LINE → Takes r n line left xs
takes_long r n m line left xs same h within over long = go (most n h)
  where
    go : (n ≡ MOST_LINES) ⊎ (n < MOST_LINES) → Takes r n line left xs
    go (inr few) = rw (within (rw same few)) (few, (long.line, record { others = long.others; split = long.split }, long.long))
    go (inl full) = rw (over (rw same full)) (full, (long.line, record { others = long.others; split = long.split }))
