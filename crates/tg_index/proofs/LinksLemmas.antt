-- Rows over linked numbers, and what becomes of them when links change.
use Rattle.std.proofs.Common.{◌≡◌, ◌≢◌, ℕ, zero, suc, ◌+◌, ◌<◌, ◌≤◌, List, [], ◌∷◌, ◌++◌, length, map, Some, None, ◌⊎◌, inl, inr, sym, ◌∙◌, subst, ap, refl, set, get_or, cond, ltb, true, false, eqb, eq-eqb, arith, length-set, length-append, get_or-set_same, get_or-set_other}
use Rattle.std.proofs.lemmas.Bool.{cases_lt, cases_Bool, ne_eqb, lt-ltb, le-ltb, ltb-false, ltb-true, cond_both, cond-true, cond-false}
use Rattle.std.proofs.lemmas.List.{get_or_append_left, get_or_push, length-map, map-append, map-set}
use Rattle.tg_lists.specs.Promise.Membership.{Contains, Distinct}
use Rattle.tg_lists.proofs.MembershipLemmas.{contains_left, contains_right}
use Rattle.tg_index.specs.declared.buckets.Link.{Link}
use Rattle.tg_index.specs.Promise.Rows.{first_of}
use Rattle.tg_index.specs.Inner.Links.{link_at, with_previous, with_next, walk, Links, first_link, written}

-- A link that was written, and another.
pub at_same : (ls : List Link) (n : ℕ) (l : Link) → n < length ls → link_at (set ls n l) n ≡ l
at_same ls n l w = get_or-set_same ls n l _ w

pub at_other : (ls : List Link) (n m : ℕ) (l : Link) → m ≢ n → link_at (set ls n l) m ≡ link_at ls m
at_other ls n m l o = get_or-set_other ls n m l _ o

-- A row that is not longer than the fuel is what the walk returns.
pub walk_links : (end : ℕ) (ls : List Link) (fuel before head : ℕ) (ns : List ℕ) → length ls ≤ end → Links end ls before head ns → length ns ≤ fuel → walk end ls fuel head ≡ ns
walk_links end ls zero before head [] size c h = refl
walk_links end ls (suc n) before head [] size c h = let test : eqb head end ≡ true = eq-eqb head end c in rw test refl
walk_links end ls zero before head (m ∷ ns) size c h = absurd (omega arith)
walk_links end ls (suc n) before head (m ∷ ns) size c h =
    let is : head ≡ m = c.0 in
    let within : m < length ls = c.1 in
    let test : eqb head end ≡ false = ne_eqb head end (omega arith) in
    let rest = walk_links end ls n m (link_at ls m).next ns size c.3 (omega arith) in
    rw test (ap (λ (k : ℕ). k ∷ walk end ls n (link_at ls k).next) is ∙ ap (λ (l : List ℕ). m ∷ l) rest)

-- A row whose links stay.
pub links_same : (end : ℕ) (ls ms : List Link) (before head : ℕ) (ns : List ℕ) → length ls ≤ length ms → ((n : ℕ) → n < length ls → Contains ns n → link_at ms n ≡ link_at ls n)
    → Links end ls before head ns → Links end ms before head ns
links_same end ls ms before head [] size keeps c = c
links_same end ls ms before head (n ∷ ns) size keeps c =
    let within : n < length ls = c.1 in
    let same : link_at ms n ≡ link_at ls n = keeps n within (inl refl) in (
      c.0,
      omega arith,
      ap (λ (l : Link). l.previous) same ∙ c.2,
      subst (λ (l : Link). Links end ms n l.next ns) (sym same) (links_same end ls ms n (link_at ls n).next ns size (λ m w h. keeps m w (inr h)) c.3),
    )

-- The first number of a row gets another before it.
links_front : (end : ℕ) (ls : List Link) (before new head : ℕ) (ns : List ℕ) → Distinct ns → Links end ls before head ns → Links end (with_previous ls head new) new head ns
links_front end ls before new head [] once c = c
links_front end ls before new head (n ∷ ns) once c =
    let is : head ≡ n = c.0 in
    let within : n < length ls = c.1 in
    let size : length (with_previous ls head new) ≡ length ls = length-set ls head _ in
    let now : link_at (with_previous ls head new) n ≡ record (link_at ls n) { previous = new } =
    ap (λ (k : ℕ). link_at (with_previous ls k new) n) is ∙ at_same ls n _ within in (
      c.0,
      omega arith,
      ap (λ (l : Link). l.previous) now,
      subst (λ (l : Link). Links end (with_previous ls head new) n l.next ns) (sym now)
          (links_same end ls (with_previous ls head new) n (link_at ls n).next ns (omega arith) (λ m w h. at_other ls head m _ (λ same. once.0 (subst (λ (k : ℕ). Contains ns k) (same ∙ is) h))) c.3),
    )

-- A number in a row, and those after it.
pub links_from : (end : ℕ) (ls : List Link) (before head : ℕ) (p : List ℕ) (n : ℕ) (r : List ℕ) → Links end ls before head (p ++ n ∷ r) → (n < length ls) × Links end ls n (link_at ls n).next r
links_from end ls before head [] n r c = (c.1, c.3)
links_from end ls before head (m ∷ p) n r c = links_from end ls m (link_at ls m).next p n r c.3

pub links_own : (end : ℕ) (ls : List Link) (before head : ℕ) (ns : List ℕ) (n : ℕ) → Links end ls before head ns → Contains ns n → n < length ls
links_own end ls before head [] n c h = absurd h
links_own end ls before head (m ∷ ns) n c h = elim h [
  | inl is ↦ subst (λ (k : ℕ). k < length ls) (sym is) c.1
  | inr rest ↦ links_own end ls m (link_at ls m).next ns n c.3 rest
]

-- The head of a row, and what is before a number, is one of the row's, or what takes its place if there is none.
pub links_after : (end : ℕ) (ls : List Link) (before head : ℕ) (ns : List ℕ) → Links end ls before head ns → (head ≡ end) ⊎ Contains ns head
links_after end ls before head [] c = inl c
links_after end ls before head (n ∷ ns) c = inr (inl c.0)

pub links_before : (end : ℕ) (ls : List Link) (before head : ℕ) (p : List ℕ) (n : ℕ) (r : List ℕ) → Links end ls before head (p ++ n ∷ r) → ((link_at ls n).previous ≡ before) ⊎ Contains p (link_at ls n).previous
links_before end ls before head [] n r c = inl c.2
links_before end ls before head (m ∷ p) n r c = elim (links_before end ls m (link_at ls m).next p n r c.3) [ inl is ↦ inr (inl is) | inr there ↦ inr (inr there) ]

-- The number before one that is not the first is one of the row's.
links_behind : (end : ℕ) (ls : List Link) (before head m : ℕ) (p : List ℕ) (n : ℕ) (r : List ℕ) → Links end ls before head (m ∷ p ++ n ∷ r) → Contains (m ∷ p) (link_at ls n).previous
links_behind end ls before head m p n r c = elim (links_before end ls m (link_at ls m).next p n r c.3) [ inl is ↦ inl is | inr there ↦ inr there ]

-- The head as an option.
pub links_head : (end : ℕ) (ls : List Link) (before head : ℕ) (ns : List ℕ) → length ls ≤ end → Links end ls before head ns → cond (ltb head (length ls)) (Some head) None ≡ first_of ns
links_head end ls before head [] size c = let test : ltb head (length ls) ≡ false = le-ltb head (length ls) (omega (arith, c, size)) in rw test refl
links_head end ls before head (n ∷ ns) size c =
    let is : head ≡ n = c.0 in
    let within : n < length ls = c.1 in
    let test : ltb head (length ls) ≡ true = lt-ltb head (length ls) (omega arith) in
    rw test (ap (λ (k : ℕ). Some k) is)

-- An element was written, or the next one was appended: there are no fewer, and that one is among them.
pub record Holds (m k n : ℕ) : Type 0 where
  pub more : m ≤ k
  pub within : n < k

module _ {X : Type 0} where
  pub written_length : (xs : List X) (n : ℕ) (x : X) → n ≤ length xs → length (written xs n x) ≡ cond (ltb n (length xs)) (length xs) (length xs + 1)
  written_length xs n x w = elim (cases_lt n (length xs)) [
    | inl less ↦ (let test : ltb n (length xs) ≡ true = lt-ltb n (length xs) less in rw test (length-set xs n x))
    | inr past ↦ (let test : ltb n (length xs) ≡ false = le-ltb n (length xs) past in rw test (length-append xs (x ∷ [])))
  ]

  pub written_holds : (xs : List X) (n : ℕ) (x : X) → n ≤ length xs → Holds (length xs) (length (written xs n x)) n
  written_holds xs n x w = cond_both (ltb n (length xs)) (set xs n x) (xs ++ x ∷ []) (λ (l : List X). Holds (length xs) (length l) n)
      (λ e. let size = length-set xs n x in let less = ltb-true n (length xs) e in record { more = omega arith; within = omega arith })
      (λ e. let size = length-append xs (x ∷ []) in record { more = omega arith; within = omega arith })

  pub written_same : (xs : List X) (n : ℕ) (x d : X) → n ≤ length xs → get_or (written xs n x) n d ≡ x
  written_same xs n x d w = cond_both (ltb n (length xs)) (set xs n x) (xs ++ x ∷ []) (λ (l : List X). get_or l n d ≡ x)
      (λ e. get_or-set_same xs n x d (ltb-true n (length xs) e)) (λ e. get_or_push xs x d n (let past = ltb-false n (length xs) e in omega arith))

  pub written_other : (xs : List X) (n : ℕ) (x : X) (m : ℕ) (d : X) → m < length xs → m ≢ n → get_or (written xs n x) m d ≡ get_or xs m d
  written_other xs n x m d w o = cond_both (ltb n (length xs)) (set xs n x) (xs ++ x ∷ []) (λ (l : List X). get_or l m d ≡ get_or xs m d) (λ e. get_or-set_other xs n m x d o) (λ e. get_or_append_left xs (x ∷ []) d m w)

pub map_written : {X Y : Type 0} (f : X → Y) (xs : List X) (n : ℕ) (x : X) → map f (written xs n x) ≡ written (map f xs) n (f x)
map_written f xs n x =
    let size = length-map xs f in
    elim (cases_lt n (length xs)) [
      | inl less ↦ (let old : ltb n (length xs) ≡ true = lt-ltb n (length xs) less in let new : ltb n (length (map f xs)) ≡ true = lt-ltb n (length (map f xs)) (omega arith) in rw (old, new) (map-set f xs n x))
      | inr past ↦ (let old : ltb n (length xs) ≡ false = le-ltb n (length xs) past in let new : ltb n (length (map f xs)) ≡ false = le-ltb n (length (map f xs)) (omega arith) in rw (old, new) (map-append f xs (x ∷ [])))
    ]

-- The links after number n was put in front of the row that began at `head`.
abbrev pub led : List Link → ℕ → ℕ → ℕ → List Link
led ls n head end = with_previous (written ls n (first_link head end)) head n

pub led-length : (ls : List Link) (n head end : ℕ) → n ≤ length ls → length (led ls n head end) ≡ cond (ltb n (length ls)) (length ls) (length ls + 1)
led-length ls n head end w = length-set (written ls n (first_link head end)) head _ ∙ written_length ls n (first_link head end) w

pub led_row : (end : ℕ) (ls : List Link) (n head : ℕ) (ns : List ℕ) → length ls ≤ end → n ≤ length ls → n < end → Distinct ns → (Contains ns n → ⊥) → Links end ls end head ns → Links end (led ls n head end) end n (n ∷ ns)
led_row end ls n head ns size fits below once lacks c =
    let holds = written_holds ls n (first_link head end) fits in
    let within = holds.within in
    let grown : length (led ls n head end) ≡ length (written ls n (first_link head end)) = length-set (written ls n (first_link head end)) head _ in
    let old : Links end (written ls n (first_link head end)) end head ns = links_same end ls (written ls n (first_link head end)) end head ns holds.more
    (λ m w h. written_other ls n (first_link head end) m _ w (λ same. lacks (subst (λ (k : ℕ). Contains ns k) same h))) c in
    let other : n ≢ head = elim (links_after end ls end head ns c) [
      | inl is ↦ λ same. omega arith
      | inr there ↦ λ same. lacks (subst (λ (k : ℕ). Contains ns k) (sym same) there)
    ] in
    let now : link_at (led ls n head end) n ≡ first_link head end = at_other (written ls n (first_link head end)) head n _ other ∙ written_same ls n (first_link head end) _ fits in (
      refl,
      omega arith,
      ap (λ (l : Link). l.previous) now,
      subst (λ (l : Link). Links end (led ls n head end) n l.next ns) (sym now) (links_front end (written ls n (first_link head end)) end n head ns once old),
    )

pub led_other : (end : ℕ) (ls : List Link) (n head before first : ℕ) (ns : List ℕ) → n ≤ length ls → ((m : ℕ) → m < length ls → Contains ns m → m ≢ n) → ((m : ℕ) → m < length ls → Contains ns m → m ≢ head)
    → Links end ls before first ns → Links end (led ls n head end) before first ns
led_other end ls n head before first ns fits not_n not_head c =
    let more = (written_holds ls n (first_link head end) fits).more in
    let size : length (led ls n head end) ≡ length (written ls n (first_link head end)) = length-set (written ls n (first_link head end)) head _ in
    links_same end ls (led ls n head end) before first ns (omega arith)
    (λ m w h. at_other (written ls n (first_link head end)) head m _ (not_head m w h) ∙ written_other ls n (first_link head end) m _ w (not_n m w h)) c

-- The links after a number with neighbours a and b has left its row.
abbrev pub joined : List Link → ℕ → ℕ → List Link
joined ls a b = with_previous (with_next ls a b) b a

pub joined-length : (ls : List Link) (a b : ℕ) → length (joined ls a b) ≡ length ls
joined-length ls a b = length-set (with_next ls a b) b _ ∙ length-set ls a _

pub joined_other : (end : ℕ) (ls : List Link) (a b before head : ℕ) (ns : List ℕ) → ((m : ℕ) → m < length ls → Contains ns m → m ≢ a) → ((m : ℕ) → m < length ls → Contains ns m → m ≢ b)
    → Links end ls before head ns → Links end (joined ls a b) before head ns
joined_other end ls a b before head ns not_a not_b c =
    let size = joined-length ls a b in
    links_same end ls (joined ls a b) before head ns (omega arith) (λ m w h. at_other (with_next ls a b) b m _ (not_b m w h) ∙ at_other ls a m _ (not_a m w h)) c

-- The links, and the heads, after a number has left its row.
abbrev pub out : List Link → ℕ → List Link
out ls n = joined ls (link_at ls n).previous (link_at ls n).next

abbrev pub heads_out : List ℕ → List Link → ℕ → ℕ → ℕ → List ℕ
heads_out hs ls b n end = cond (eqb (link_at ls n).previous end) (set hs b (link_at ls n).next) hs

-- The first of the numbers before one and after it.
abbrev pub head_after : List ℕ → ℕ → ℕ → ℕ
head_after [] head b = b
head_after (m ∷ p) head b = head

-- The last number before the one that leaves leads to the one after it, and the others lead on as before.
leads : (end : ℕ) (ls : List Link) (before head m : ℕ) (p : List ℕ) (n : ℕ) (r : List ℕ) → length ls ≤ end → Distinct (m ∷ p ++ n ∷ r) → Links end ls before head (m ∷ p ++ n ∷ r)
    → link_at (joined ls (link_at ls n).previous (link_at ls n).next) m ≡ record (link_at ls m) { next = head_after p (link_at ls m).next (link_at ls n).next }
leads end ls before head m p n r size once c = at_other (with_next ls (link_at ls n).previous (link_at ls n).next) (link_at ls n).next m _ after ∙ on p once c where
  after : m ≢ (link_at ls n).next
  after = elim (links_after end ls n (link_at ls n).next r (links_from end ls m (link_at ls m).next p n r c.3).1) [
    | inl is ↦ λ same. (let within : m < length ls = c.1 in omega arith)
    | inr there ↦ λ same. once.0 (contains_right p (n ∷ r) m (inr (subst (λ (k : ℕ). Contains r k) (sym same) there)))
  ]

  on : (q : List ℕ) → Distinct (m ∷ q ++ n ∷ r) → Links end ls before head (m ∷ q ++ n ∷ r) → link_at (with_next ls (link_at ls n).previous (link_at ls n).next) m ≡ record (link_at ls m) { next = head_after q (link_at ls m).next (link_at ls n).next }
  on [] one l = ap (λ (k : ℕ). link_at (with_next ls k (link_at ls n).next) m) l.3.2 ∙ at_same ls m _ l.1
  on (k ∷ q) one l =
      let there : Contains (k ∷ q) (link_at ls n).previous = links_behind end ls m (link_at ls m).next k q n r l.3 in
      at_other ls (link_at ls n).previous m _ (λ same. one.0 (subst (λ (x : ℕ). Contains (k ∷ q ++ n ∷ r) x) (sym same) (contains_left (k ∷ q) (n ∷ r) (link_at ls n).previous there)))

pub links_out : (end : ℕ) (ls : List Link) (before head : ℕ) (p : List ℕ) (n : ℕ) (r : List ℕ) → length ls ≤ end → Distinct (p ++ n ∷ r) → (Contains r before → ⊥) → Links end ls before head (p ++ n ∷ r)
    → Links end (joined ls (link_at ls n).previous (link_at ls n).next) before (head_after p head (link_at ls n).next) (p ++ r)
links_out end ls before head [] n r size once apart c =
    let is : (link_at ls n).previous ≡ before = c.2 in
    let one : length (with_next ls (link_at ls n).previous (link_at ls n).next) ≡ length ls = length-set ls (link_at ls n).previous _ in
    let rest : Links end (with_next ls (link_at ls n).previous (link_at ls n).next) n (link_at ls n).next r = links_same end ls (with_next ls (link_at ls n).previous (link_at ls n).next) n (link_at ls n).next r (omega arith)
    (λ m w h. at_other ls (link_at ls n).previous m _ (λ same. apart (subst (λ (k : ℕ). Contains r k) (same ∙ is) h))) c.3 in
    subst (λ (k : ℕ). Links end (joined ls (link_at ls n).previous (link_at ls n).next) k (link_at ls n).next r) is
    (links_front end (with_next ls (link_at ls n).previous (link_at ls n).next) n (link_at ls n).previous (link_at ls n).next r once.1 rest)
links_out end ls before head (m ∷ p) n r size once apart c =
    let size' : length (joined ls (link_at ls n).previous (link_at ls n).next) ≡ length ls = joined-length ls (link_at ls n).previous (link_at ls n).next in
    let within : m < length ls = c.1 in
    let now = leads end ls before head m p n r size once c in (
      c.0,
      omega arith,
      ap (λ (l : Link). l.previous) now ∙ c.2,
      subst (λ (l : Link). Links end (joined ls (link_at ls n).previous (link_at ls n).next) m l.next (p ++ r)) (sym now)
          (links_out end ls m (link_at ls m).next p n r size once.1 (λ h. once.0 (contains_right p (n ∷ r) m (inr h))) c.3),
    )

-- The row's head moves on if the number had none before it.
pub head_moves : (end : ℕ) (ls : List Link) (head : ℕ) (p : List ℕ) (n : ℕ) (r : List ℕ) → length ls ≤ end → Links end ls end head (p ++ n ∷ r) → cond (eqb (link_at ls n).previous end) (link_at ls n).next head ≡ head_after p head (link_at ls n).next
head_moves end ls head [] n r size c = cond-true (eqb (link_at ls n).previous end) (link_at ls n).next head (eq-eqb (link_at ls n).previous end c.2)
head_moves end ls head (m ∷ p) n r size c =
    let within : (link_at ls n).previous < length ls = links_own end ls end head (m ∷ p ++ n ∷ r) (link_at ls n).previous c (contains_left (m ∷ p) (n ∷ r) (link_at ls n).previous (links_behind end ls end head m p n r c)) in
    cond-false (eqb (link_at ls n).previous end) (link_at ls n).next head (ne_eqb (link_at ls n).previous end (omega arith))

-- The heads after that of list i has moved on, if what left the list had none before it.
pub head_own : (hs : List ℕ) (i a b end : ℕ) → i < length hs → get_or (cond (eqb a end) (set hs i b) hs) i end ≡ cond (eqb a end) b (get_or hs i end)
head_own hs i a b end w = elim (cases_Bool (eqb a end)) [
  | inl on ↦ rw on (get_or-set_same hs i b end w)
  | inr off ↦ rw off refl
]

pub head_other : (hs : List ℕ) (i a b end j : ℕ) → j ≢ i → get_or (cond (eqb a end) (set hs i b) hs) j end ≡ get_or hs j end
head_other hs i a b end j o = cond_both (eqb a end) (set hs i b) hs (λ (l : List ℕ). get_or l j end ≡ get_or hs j end) (λ e. get_or-set_other hs i j b end o) (λ e. refl)

pub heads_size : (hs : List ℕ) (i a b end : ℕ) → length (cond (eqb a end) (set hs i b) hs) ≡ length hs
heads_size hs i a b end = cond_both (eqb a end) (set hs i b) hs (λ (l : List ℕ). length l ≡ length hs) (λ e. length-set hs i b) (λ e. refl)
