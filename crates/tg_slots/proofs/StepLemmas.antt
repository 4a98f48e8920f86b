-- What each call does to linked slots: the invariant holds of them, and the table that they show is the one promised.
use Rattle.std.proofs.Common.{◌≡◌, ◌≢◌, ℕ, suc, ◌+◌, ◌-◌, ◌<◌, ◌≤◌, List, [], ◌∷◌, ◌++◌, length, Option, Some, None, ◌⊎◌, inl, inr, sym, ◌∙◌, subst, ap, refl, set, get_or, min, arith, length-set, length-append, ltb, Bor, IfSome, MatchOption}
use Rattle.std.specs.Option.{option_map}
use Rattle.std.proofs.lemmas.Bool.{cases_lt, cond_both, ltb-false, ltb-true}
use Rattle.std.proofs.lemmas.List.{get_or_past, length-map, map-append, map-set, set-get_or}
use Rattle.tg_lists.specs.Promise.Membership.{Contains, Distinct}
use Rattle.tg_lists.proofs.MembershipLemmas.{contains_left}
use Rattle.tg_slots.specs.Inner.Linked.{Linked, Shelved, at, blank, occupant_at, occupants, written}
use Rattle.tg_slots.specs.declared.slots.Occupant.{Occupant}
use Rattle.tg_slots.specs.declared.slots.Slots.TheInside.{Inside}
use Rattle.tg_slots.specs.declared.colour.Colour.{Colour}
use Rattle.tg_slots.specs.declared.colour.Colour.TheVariants.{White, Grey, Black}
use Rattle.tg_slots.specs.Promise.Table.{Table, mark, mark_of, Has, Free, IsSound, in_slot, slot, coloured, recoloured, with_slot_text, fresh, indices, nones}
use Rattle.tg_slots.specs.Inner.Chain.{IndexChain}
use Rattle.tg_slots.specs.Inner.Inside.{links, table, Shows, IsInside}
use Rattle.tg_slots.proofs.TableLemmas.{within_table, sound-push_grey, sound-pop_grey, sound-take_free, sound-give_back, sound-painted, sound-set_text, grey_one}
use Rattle.tg_slots.proofs.FreshLemmas.{fresh_sound, indices_length}
use Rattle.tg_slots.proofs.ChainLemmas.{chain_set, chain_more, chain_push, chain_first, chain_past}
use Rattle.tg_slots.proofs.InsideLemmas.{shows_table, slot_read, link_read, slots_set, slots_more}

pub record Leaves (s : Inside) (t : Table) : Type 0 where
  pub kept : IsInside s
  pub shows : table s ≡ t

leaves : (s : Inside) (t : Table) → Shows s.size s.entries.items s.free s.grey t → s.free_count ≡ length t.free → s.size ≤ 65536 → s.size ≤ s.entries.room → Leaves s t
leaves s t k count most room =
    let is : table s ≡ t = shows_table s.size s.entries.items s.free s.grey t k in
    record {
      kept = record { shown = subst (λ (u : Table). Shows s.size s.entries.items s.free s.grey u) (sym is) k; count = count ∙ ap (λ (u : Table). length u.free) (sym is); size = most; room = room };
      shows = is;
    }

-- What is read of a slot, in the words of the table.
pub colour_shown : (o : Option Occupant) → MatchOption (in_slot (λ o. o.colour) o) (mark_of o ≡ Free) (λ c. mark_of o ≡ Has c)
colour_shown None = refl
colour_shown (Some o) = refl

pub text_shown : (o : Option Occupant) (r : Option (Bor (List ℕ))) → option_map (λ t. t.now) r ≡ in_slot (λ o. o.text) o → MatchOption r (mark_of o ≡ Free) (λ t. in_slot (λ o. o.text) o ≡ Some t.now)
text_shown None None e = refl
text_shown (Some o) None e = absurd (cc)
text_shown o (Some t) e = sym e

pub old_text : (o : Option Occupant) (old : List ℕ) → in_slot (λ o. o.text) o ≡ Some old → IfSome o (λ o. old ≡ o.text)
old_text None old e = tt
old_text (Some o) old e = let same : o.text ≡ old = cc in sym same

-- A slot of one mark is not in the list of the other.
not_free : (t : Table) (i : ℕ) (c : Colour) → IsSound t → mark t i ≡ Has c → Contains t.free i → ⊥
not_free t i c s w h = let f = (s.listed_free i h).1 in absurd (cc)

not_grey : (t : Table) (i : ℕ) → IsSound t → mark t i ≡ Has White → Contains t.grey i → ⊥
not_grey t i s w h = let f = (s.listed_grey i h).1 in absurd (cc)

pub black_out : (t : Table) (i : ℕ) → IsSound t → mark t i ≡ Has Black → Contains t.grey i → ⊥
black_out t i s b h = let f = (s.listed_grey i h).1 in absurd (cc)

-- A white or a black vertex is not grey.
pub pale : (c : Colour) → (c ≡ White) ⊎ (c ≡ Black) → grey_one (Has c) ≡ 0
pale c h = elim h [ inl w ↦ ap (λ (k : Colour). grey_one (Has k)) w | inr b ↦ ap (λ (k : Colour). grey_one (Has k)) b ]

free_out : (t : Table) (i : ℕ) → IsSound t → Contains t.free i → Contains t.grey i → ⊥
free_out t i s h l = let f = (s.listed_free i h).1 in let g = (s.listed_grey i l).1 in absurd (cc)

-- A free slot was taken for a vertex.
pub record Took (size : ℕ) (es : List Linked) (grey : ℕ) (t : Table) (next id : ℕ) (o : Occupant) : Type 0 where
  pub rest : List ℕ
  pub is : t.free ≡ id ∷ rest
  pub shows : Shows size es next grey (record t { slots = set t.slots id (Some o); free = rest })

module _ (size : ℕ) (es : List Linked) (free grey : ℕ) (t : Table) (k : Shows size es free grey t) where
  -- What was read of a slot is what the table has there, and an occupied one was used.
  pub slot_at : (i : ℕ) → occupant_at es i ≡ slot t i
  slot_at i = slot_read es (size - length es) i ∙ ap (λ (l : List (Option Occupant)). get_or l i None) k.slots

  pub taken_within : (i : ℕ) → mark t i ≢ Free → i < length es
  taken_within i taken = elim (cases_lt i (length es)) [
    | inl w ↦ w
    | inr past ↦ absurd (taken (ap mark_of (sym (slot_at i) ∙ ap (λ (e : Linked). e.occupant) (get_or_past es i blank past))))
  ]

  pub entry_within : (i : ℕ) (c : Colour) → mark t i ≡ Has c → i < length es
  entry_within i c w = taken_within i (λ f. absurd (cc))

  pub some_at : (i : ℕ) (c : Colour) → mark t i ≡ Has c → occupant_at es i ≢ None
  some_at i c w none = let free : mark t i ≡ Free = ap mark_of (sym (slot_at i) ∙ none) in cc

  -- A slot that was used is written: its vertex, as many slots as before, and chains in which it is not.
  slots_then : (i : ℕ) (e : Linked) → i < length es → occupants (set es i e) ++ nones (size - length (set es i e)) ≡ set t.slots i e.occupant
  slots_then i e w = slots_set size es i e w ∙ ap (λ (l : List (Option Occupant)). set l i e.occupant) k.slots

  used_then : (i : ℕ) (e : Linked) → length (set es i e) ≤ size
  used_then i e = let used = k.used in omega (arith, used, length-set es i e)

  listed_then : (l rest : List ℕ) (i : ℕ) (e : Linked) → l ≡ rest ++ indices (length es) (size - length es) → l ≡ rest ++ indices (length (set es i e)) (size - length (set es i e))
  listed_then l rest i e is = is ∙ ap (λ (n : ℕ). rest ++ indices n (size - n)) (sym (length-set es i e))

  chain_then : (i : ℕ) (e : Linked) (head : ℕ) (l : List ℕ) → (Contains l i → ⊥) → IndexChain size (links es) head l → IndexChain size (links (set es i e)) head l
  chain_then i e head l out c = subst (λ (ls : List ℕ). IndexChain size ls head l) (sym (map-set (λ (x : Linked). x.link) es i e)) (chain_set size (links es) i e.link head l out c)

  front_then : (i : ℕ) (o : Option Occupant) (head : ℕ) (l : List ℕ) → i < length es → (Contains l i → ⊥) → IndexChain size (links es) head l → IndexChain size (links (set es i (record { occupant = o; link = head }))) i (i ∷ l)
  front_then i o head l w out c =
      subst (λ (ls : List ℕ). IndexChain size ls i (i ∷ l)) (sym (map-set (λ (x : Linked). x.link) es i (record { occupant = o; link = head })))
      (chain_push size (links es) i head l (omega (arith, w, length-map es (λ (x : Linked). x.link))) out c)

  not_rest : (i : ℕ) (c : Colour) → mark t i ≡ Has c → Contains k.rest i → ⊥
  not_rest i c w h = not_free t i c k.sound w (subst (λ (l : List ℕ). Contains l i) (sym k.listed) (contains_left k.rest (indices (length es) (size - length es)) i h))

  -- A vertex changes, and no link does.
  pub repainted : (f : Option Occupant → Option Occupant) (i : ℕ) → i < length es → IsSound (record t { slots = set t.slots i (f (slot t i)) })
      → Shows size (set es i (record { occupant = f (occupant_at es i); link = (at es i).link })) free grey (record t { slots = set t.slots i (f (slot t i)) })
  repainted f i w sound =
      let e : Linked = record { occupant = f (occupant_at es i); link = (at es i).link } in
      let same : links (set es i e) ≡ links es = map-set (λ (x : Linked). x.link) es i e ∙ ap (set (links es) i) (sym (link_read es i size w)) ∙ set-get_or (links es) i size in
      record {
        used = used_then i e;
        slots = slots_then i e w ∙ ap (λ (o : Option Occupant). set t.slots i (f o)) (slot_at i);
        rest = k.rest;
        listed = listed_then t.free k.rest i e k.listed;
        free = subst (λ (l : List ℕ). IndexChain size l free k.rest) (sym same) k.free;
        grey = subst (λ (l : List ℕ). IndexChain size l grey t.grey) (sym same) k.grey;
        sound = sound;
      }

  -- A white slot turns grey, in front of the grey list.
  pub greyed : (i : ℕ) → mark t i ≡ Has White → Shows size (set es i (record { occupant = coloured Grey (occupant_at es i); link = grey })) free i (record t { slots = recoloured t i Grey; grey = i ∷ t.grey })
  greyed i w =
      let e : Linked = record { occupant = coloured Grey (occupant_at es i); link = grey } in
      let within = entry_within i White w in
      record {
        used = used_then i e;
        slots = slots_then i e within ∙ ap (λ (o : Option Occupant). set t.slots i (coloured Grey o)) (slot_at i);
        rest = k.rest;
        listed = listed_then t.free k.rest i e k.listed;
        free = chain_then i e free k.rest (not_rest i White w) k.free;
        grey = front_then i (coloured Grey (occupant_at es i)) grey t.grey within (not_grey t i k.sound w) k.grey;
        sound = sound-push_grey t i k.sound w;
      }

  -- A white slot is freed, in front of the free list.
  pub freed : (i : ℕ) → mark t i ≡ Has White → Shows size (set es i (record { occupant = None; link = free })) i grey (record t { slots = set t.slots i None; free = i ∷ t.free })
  freed i w =
      let e : Linked = record { occupant = None; link = free } in
      let within = entry_within i White w in
      record {
        used = used_then i e;
        slots = slots_then i e within;
        rest = i ∷ k.rest;
        listed = ap (λ (l : List ℕ). i ∷ l) (listed_then t.free k.rest i e k.listed);
        free = front_then i None free k.rest within (not_rest i White w) k.free;
        grey = chain_then i e grey t.grey (not_grey t i k.sound w) k.grey;
        sound = sound-give_back t i k.sound w;
      }

  -- The first free one of the slots that were used is taken.
  took_used : (o : Occupant) → free < length es → grey_one (Has o.colour) ≡ 0 → Took size (set es free (record { occupant = Some o; link = 0 })) grey t (get_or (links es) free size) free o
  took_used o w pale =
      let e : Linked = record { occupant = Some o; link = 0 } in
      let f = chain_first size (links es) free k.rest (let used = k.used in omega arith) k.free in
      let is : t.free ≡ free ∷ (f.rest ++ indices (length es) (size - length es)) = k.listed ∙ ap (λ (l : List ℕ). l ++ indices (length es) (size - length es)) f.is in
      let once : Distinct (free ∷ (f.rest ++ indices (length es) (size - length es))) = subst (λ (l : List ℕ). Distinct l) is k.sound.free_once in
      let first : Contains t.free free = subst (λ (l : List ℕ). Contains l free) (sym is) (inl refl) in
      record {
        rest = f.rest ++ indices (length es) (size - length es);
        is = is;
        shows = record {
          used = used_then free e;
          slots = slots_then free e w;
          rest = f.rest;
          listed = listed_then (f.rest ++ indices (length es) (size - length es)) f.rest free e refl;
          free = chain_then free e (get_or (links es) free size) f.rest (λ h. once.0 (contains_left f.rest (indices (length es) (size - length es)) free h)) f.chain;
          grey = chain_then free e grey t.grey (free_out t free k.sound first) k.grey;
          sound = sound-take_free t free (f.rest ++ indices (length es) (size - length es)) o k.sound is pale;
        };
      }

  -- The first one that was never used is taken, since all that were used are.
  took_next : (o : Occupant) → length es ≤ free → length es < size → grey_one (Has o.colour) ≡ 0 → Took size (es ++ record { occupant = Some o; link = 0 } ∷ []) grey t size (length es) o
  took_next o past w pale =
      let e : Linked = record { occupant = Some o; link = 0 } in
      let empty : k.rest ≡ [] = chain_past size (links es) free k.rest (omega (arith, past, length-map es (λ (x : Linked). x.link))) k.free in
      let long : length (es ++ e ∷ []) ≡ suc (length es) = omega (arith, length-append es (e ∷ [])) in
      let left : size - length es ≡ suc (size - suc (length es)) = omega arith in
      let is : t.free ≡ length es ∷ indices (suc (length es)) (size - suc (length es)) = k.listed ∙ ap (λ (l : List ℕ). l ++ indices (length es) (size - length es)) empty ∙ ap (indices (length es)) left in
      record {
        rest = indices (suc (length es)) (size - suc (length es));
        is = is;
        shows = record {
          used = omega arith;
          slots = slots_more size es e w ∙ ap (λ (l : List (Option Occupant)). set l (length es) (Some o)) k.slots;
          rest = [];
          listed = ap (λ (n : ℕ). indices n (size - n)) (sym long);
          free = refl;
          grey = subst (λ (l : List ℕ). IndexChain size l grey t.grey) (sym (map-append (λ (x : Linked). x.link) es (e ∷ []))) (chain_more size (links es) 0 grey t.grey k.grey);
          sound = sound-take_free t (length es) (indices (suc (length es)) (size - suc (length es))) o k.sound is pale;
        };
      }

  pub took : (o : Occupant) (id next : ℕ) → id ≡ min free (length es) → id < size → next ≡ get_or (links es) id size → grey_one (Has o.colour) ≡ 0 → Took size (written es id (record { occupant = Some o; link = 0 })) grey t next id o
  took o id next at below on pale =
      let e : Linked = record { occupant = Some o; link = 0 } in
      cond_both (ltb id (length es)) (set es id e) (es ++ e ∷ []) (λ (l : List Linked). Took size l grey t next id o)
      (λ test.
      let less = ltb-true id (length es) test in
      let same : free ≡ id = omega arith in
      subst (λ (n : ℕ). Took size (set es id e) grey t n id o) (sym on) (subst (λ (i : ℕ). Took size (set es i e) grey t (get_or (links es) i size) i o) same (took_used o (omega arith) pale)))
      (λ test.
      let past = ltb-false id (length es) test in
      let same : length es ≡ id = omega arith in
      let end : get_or (links es) id size ≡ size = get_or_past (links es) id size (omega (arith, same, length-map es (λ (x : Linked). x.link))) in
      subst (λ (n : ℕ). Took size (es ++ e ∷ []) grey t n id o) (sym (on ∙ end)) (subst (λ (i : ℕ). Took size (es ++ e ∷ []) grey t size i o) same (took_next o (omega arith) (omega arith) pale)))

  -- There is a free one if that index is one of a slot; else there is none.
  pub some_free : (id : ℕ) → id ≡ min free (length es) → id < size → 1 ≤ length t.free
  some_free id at below =
      let listed = ap length k.listed in
      let used = k.used in
      by k.rest k.free (omega (arith, listed, length-append k.rest (indices (length es) (size - length es)), indices_length (length es) (size - length es))) where
        by : (rest : List ℕ) → IndexChain size (links es) free rest → length t.free ≡ length rest + (size - length es) → 1 ≤ length t.free
        by [] c all = let end : free ≡ size = c in omega arith
        by (j ∷ rest) c all = omega arith

  pub full : size ≤ min free (length es) → t.free ≡ []
  full past =
      let empty : k.rest ≡ [] = chain_past size (links es) free k.rest (omega (arith, past, length-map es (λ (x : Linked). x.link))) k.free in
      let none : size - length es ≡ 0 = omega arith in
      k.listed ∙ ap (λ (l : List ℕ). l ++ indices (length es) (size - length es)) empty ∙ ap (indices (length es)) none

-- The same from the steps of the code, one after another: one of the slots that were used is written, in the room that
-- there was.
abbrev pub Writes : Inside → Shelved → ℕ → Linked → Type 0
Writes s v i new = v ≡ record s.entries { items = set s.entries.items i new }

module _ (s : Inside) (v : Shelved) (i : ℕ) (k : IsInside s) where
  written_so : (e : Linked) (t : Table) (free grey count : ℕ) → Writes s v i e → Shows s.size (set s.entries.items i e) free grey t → count ≡ length t.free → Leaves (record { entries = v; free = free; grey = grey; free_count = count; size = s.size }) t
  written_so e t free grey count is shows counted =
      leaves (record { entries = v; free = free; grey = grey; free_count = count; size = s.size }) t (subst (λ (u : Shelved). Shows s.size u.items free grey t) (sym is) shows) counted k.size
      (let room = k.room in let same = ap (λ (u : Shelved). u.room) is in omega arith)

  -- A black slot turns white, or a grey one out of the list black.
  pub leaves-paint : (c d : Colour) → mark (table s) i ≡ Has c → (Contains (table s).grey i → ⊥)
      → Writes s v i (record { occupant = coloured d (occupant_at s.entries.items i); link = (at s.entries.items i).link }) → Leaves (record s { entries = v }) (record (table s) { slots = recoloured (table s) i d })
  leaves-paint c d w out is =
      written_so (record { occupant = coloured d (occupant_at s.entries.items i); link = (at s.entries.items i).link }) (record (table s) { slots = recoloured (table s) i d }) s.free s.grey s.free_count is
      (repainted s.size s.entries.items s.free s.grey (table s) k.shown (coloured d) i (entry_within s.size s.entries.items s.free s.grey (table s) k.shown i c w) (sound-painted (table s) i c d k.shown.sound w out)) k.count

  -- The text of a vertex is replaced.
  pub leaves-set_text : (x : List ℕ) → mark (table s) i ≢ Free → Writes s v i (record { occupant = with_slot_text x (occupant_at s.entries.items i); link = (at s.entries.items i).link })
      → Leaves (record s { entries = v }) (record (table s) { slots = set (table s).slots i (with_slot_text x (slot (table s) i)) })
  leaves-set_text x taken is =
      written_so (record { occupant = with_slot_text x (occupant_at s.entries.items i); link = (at s.entries.items i).link }) (record (table s) { slots = set (table s).slots i (with_slot_text x (slot (table s) i)) }) s.free s.grey s.free_count is
      (repainted s.size s.entries.items s.free s.grey (table s) k.shown (with_slot_text x) i (taken_within s.size s.entries.items s.free s.grey (table s) k.shown i taken) (sound-set_text (table s) i x k.shown.sound (within_table (table s) i taken))) k.count

  -- A white slot turns grey, in front of the grey list, or is freed, in front of the free list.
  pub leaves-push_grey : mark (table s) i ≡ Has White → Writes s v i (record { occupant = coloured Grey (occupant_at s.entries.items i); link = s.grey })
      → Leaves (record s { entries = v; grey = i }) (record (table s) { slots = recoloured (table s) i Grey; grey = i ∷ (table s).grey })
  leaves-push_grey w is =
      written_so (record { occupant = coloured Grey (occupant_at s.entries.items i); link = s.grey }) (record (table s) { slots = recoloured (table s) i Grey; grey = i ∷ (table s).grey }) s.free i s.free_count is
      (greyed s.size s.entries.items s.free s.grey (table s) k.shown i w) k.count

  pub leaves-give_back : mark (table s) i ≡ Has White → Writes s v i (record { occupant = None; link = s.free })
      → Leaves (record { entries = v; free = i; grey = s.grey; free_count = s.free_count + 1; size = s.size }) (record (table s) { slots = set (table s).slots i None; free = i ∷ (table s).free })
  leaves-give_back w is =
      written_so (record { occupant = None; link = s.free }) (record (table s) { slots = set (table s).slots i None; free = i ∷ (table s).free }) i s.grey (s.free_count + 1) is
      (freed s.size s.entries.items s.free s.grey (table s) k.shown i w) (let count = k.count in omega (arith, count))

-- The first of the grey list is taken out of it.
pub record Pops (s after : Inside) : Type 0 where
  pub kept : IsInside after
  pub was : table s ≡ record (table after) { grey = s.grey ∷ (table after).grey }

pub pops : (s : Inside) → IsInside s → s.grey < length s.entries.items → Pops s (record s { grey = (at s.entries.items s.grey).link })
pops s k used =
    let f = chain_first s.size (links s.entries.items) s.grey (table s).grey (let fits = k.shown.used in omega arith) k.shown.grey in
    let a = leaves (record s { grey = (at s.entries.items s.grey).link }) (record (table s) { grey = f.rest }) (record {
      used = k.shown.used;
      slots = k.shown.slots;
      rest = k.shown.rest;
      listed = k.shown.listed;
      free = k.shown.free;
      grey = subst (λ (i : ℕ). IndexChain s.size (links s.entries.items) i f.rest) (link_read s.entries.items s.grey s.size used) f.chain;
      sound = sound-pop_grey (table s) s.grey f.rest k.shown.sound f.is;
    }) k.count k.size k.room in
    record {
      kept = a.kept;
      was = ap (λ (l : List ℕ). record (table s) { grey = l }) f.is ∙ ap (λ (t : Table). record t { grey = s.grey ∷ t.grey }) (sym a.shows);
    }

pub none_grey : (s : Inside) → IsInside s → length s.entries.items ≤ s.grey → (table s).grey ≡ []
none_grey s k past = chain_past s.size (links s.entries.items) s.grey (table s).grey (omega (arith, past, length-map s.entries.items (λ (x : Linked). x.link))) k.shown.grey

-- The first free slot is taken for a vertex that is not grey.
pub record Takes (s after : Inside) (id : ℕ) (o : Occupant) : Type 0 where
  pub kept : IsInside after
  pub free : (table s).free ≡ id ∷ (table after).free
  pub grey : (table after).grey ≡ (table s).grey
  pub slots : (table after).slots ≡ set (table s).slots id (Some o)

pub takes : (s : Inside) (v : Shelved) (id next : ℕ) (o : Occupant) → IsInside s → id ≡ min s.free (length s.entries.items) → id < s.size → next ≡ get_or (links s.entries.items) id s.size → grey_one (Has o.colour) ≡ 0
    → v.items ≡ written s.entries.items id (record { occupant = Some o; link = 0 }) → s.entries.room ≤ v.room → Takes s (record { entries = v; free = next; grey = s.grey; free_count = s.free_count - 1; size = s.size }) id o
takes s v id next o k at below on pale is room =
    let a = took s.size s.entries.items s.free s.grey (table s) k.shown o id next at below on pale in
    let count = k.count in
    let fewer = ap length a.is in
    let was = k.room in
    let left = leaves (record { entries = v; free = next; grey = s.grey; free_count = s.free_count - 1; size = s.size }) (record (table s) { slots = set (table s).slots id (Some o); free = a.rest })
    (subst (λ (l : List Linked). Shows s.size l next s.grey (record (table s) { slots = set (table s).slots id (Some o); free = a.rest })) (sym is) a.shows) (omega (arith, count, fewer)) k.size (omega arith) in
    record {
      kept = left.kept;
      free = a.is ∙ ap (λ (t : Table). id ∷ t.free) (sym left.shows);
      grey = ap (λ (t : Table). t.grey) left.shows;
      slots = ap (λ (t : Table). t.slots) left.shows;
    }

-- Slots that were never used so far.
pub leaves-new : (s : Inside) → s.entries.items ≡ [] → s.free ≡ s.size → s.grey ≡ s.size → s.free_count ≡ s.size → s.size ≤ 65536 → s.size ≤ s.entries.room → Leaves s (fresh s.size)
leaves-new s none free grey count most room =
    let less : s.size - 0 ≡ s.size = omega arith in
    leaves s (fresh s.size) (subst (λ (l : List Linked). Shows s.size l s.free s.grey (fresh s.size)) (sym none) (record {
      used = omega arith;
      slots = ap nones less;
      rest = [];
      listed = ap (indices 0) (sym less);
      free = free;
      grey = grey;
      sound = fresh_sound s.size;
    })) (count ∙ sym (indices_length 0 s.size)) most room
