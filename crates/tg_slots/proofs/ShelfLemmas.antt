-- Tints and links beside forms as one list of slots: what is read of it, and what each write leaves.
use Rattle.std.proofs.Common.{◌≡◌, ◌≢◌, ℕ, ◌<◌, ◌≤◌, List, [], ◌∷◌, ◌++◌, length, inl, inr, Some, None, true, sym, ◌∙◌, subst, ap, refl, set, arith}
use Rattle.std.specs.List.{All, slice_get}
use Rattle.std.proofs.lemmas.Bool.{cases_lt, cond_above, cond_below}
use Rattle.std.proofs.lemmas.List.{get_or_past, length-map, map-append, map-set}
use Rattle.std.proofs.lemmas.List.Elements.{All-append, All-cons, All-nil, All-set}
use Rattle.std.proofs.lemmas.Option.{get_or_from_slice_get, slice_get_within}
use Rattle.tg_lists.specs.Promise.Columns.{HasLeft, HasRight, with_left, with_right}
use Rattle.tg_lists.proofs.ColumnsLemmas.{left_changed, right_changed, seen, there, with_left_set, with_right_set}
use Rattle.tg_slots.specs.declared.colour.Colour.{Colour}
use Rattle.tg_slots.specs.declared.colour.Colour.TheVariants.{White, Grey, Black}
use Rattle.tg_slots.specs.declared.slots.Occupant.{Occupant}
use Rattle.tg_slots.specs.declared.shelf.Tint.{Tint}
use Rattle.tg_slots.specs.declared.shelf.Tint.TheVariants as tint
use Rattle.tg_slots.specs.declared.shelf.Lead.{Lead}
use Rattle.tg_slots.specs.declared.shelf.Form.{Form}
use Rattle.tg_slots.specs.declared.shelf.Form.TheVariants as form
use Rattle.tg_slots.specs.Promise.Table.{coloured, in_slot, with_slot_text}
use Rattle.tg_slots.specs.Inner.Linked.{Linked, at, blank, occupant_at, written}
use Rattle.tg_slots.specs.Inner.Shelf.{IsMatched, all_linked, colour_of, is_coloured, is_filled, form_kind, linked, form_serial, telling, form_text, tint_of}

-- A slot of two halves.
abbrev slot_of : Lead × Form → Linked
slot_of p = linked p.0 p.1

-- The halves of a slot agree.
agree_at : (ps : List (Lead × Form)) (i : ℕ) (p : Lead × Form) → All IsMatched ps → slice_get ps i ≡ Some p → IsMatched p
agree_at ps i p k here = subst IsMatched (get_or_from_slice_get ps i p p here) (k i p (slice_get_within ps i p here))

-- Past the last slot there is none, and a slot with a vertex is not past it.
pub past : (ps : List (Lead × Form)) (i : ℕ) → length ps ≤ i → (length (all_linked ps) ≤ i) × (at (all_linked ps) i ≡ blank)
past ps i k = let size = length-map ps slot_of in let past : length (all_linked ps) ≤ i = omega arith in (past, get_or_past (all_linked ps) i blank past)

pub some_within : (ps : List (Lead × Form)) (i : ℕ) → occupant_at (all_linked ps) i ≢ None → i < length ps
some_within ps i some = elim (cases_lt i (length ps)) [ inl w ↦ w | inr k ↦ absurd (some (ap (λ (e : Linked). e.occupant) (past ps i k).1)) ]

left_at : (ps : List (Lead × Form)) (i : ℕ) → occupant_at (all_linked ps) i ≢ None → (l : Lead) × HasLeft ps i l
left_at ps i some = let pair = there ps i (some_within ps i some) in (pair.0.0, record { other = pair.0.1; here = pair.1 })

-- The colour in a slot is that of its tint, and where the slot leads is its link.
one_colour : (t : Tint) (link : ℕ) (f : Form) → is_coloured t ≡ is_filled f → colour_of t ≡ in_slot (λ o. o.colour) (linked (record { tint = t; link = link }) f).occupant
one_colour tint.Free link form.Free k = refl
one_colour tint.Free link (form.Taken kind serial text) k = absurd (cc)
one_colour tint.White link form.Free k = absurd (cc)
one_colour tint.White link (form.Taken kind serial text) k = refl
one_colour tint.Grey link form.Free k = absurd (cc)
one_colour tint.Grey link (form.Taken kind serial text) k = refl
one_colour tint.Black link form.Free k = absurd (cc)
one_colour tint.Black link (form.Taken kind serial text) k = refl

pub colour_read : (ps : List (Lead × Form)) (i : ℕ) (l : Lead) → All IsMatched ps → HasLeft ps i l → colour_of l.tint ≡ in_slot (λ o. o.colour) (occupant_at (all_linked ps) i)
colour_read ps i l k h =
    one_colour l.tint l.link h.other (agree_at ps i (l, h.other) k h.here)
    ∙ ap (λ (e : Linked). in_slot (λ o. o.colour) e.occupant) (sym (seen slot_of ps i (l, h.other) blank h.here))

one_link : (l : Lead) (f : Form) → l.link ≡ (linked l f).link
one_link l form.Free = refl
one_link l (form.Taken kind serial text) = refl

pub link_read : (ps : List (Lead × Form)) (i : ℕ) (l : Lead) → HasLeft ps i l → (i < length (all_linked ps)) × (l.link ≡ (at (all_linked ps) i).link)
link_read ps i l h =
    let size = length-map ps slot_of in
    let within = slice_get_within ps i (l, h.other) h.here in
    (omega arith, one_link l h.other ∙ ap (λ (e : Linked). e.link) (sym (seen slot_of ps i (l, h.other) blank h.here)))

-- What a form holds is what the slot of its index holds.
pub record Holds (es : List Linked) (i : ℕ) (f : Form) : Type 0 where
  pub serial : form_serial f ≡ in_slot (λ o. o.serial) (occupant_at es i)
  pub kind : form_kind f ≡ in_slot (λ o. o.kind) (occupant_at es i)
  pub text : form_text f ≡ in_slot (λ o. o.text) (occupant_at es i)

held : (es : List Linked) (i : ℕ) (l : Lead) (f : Form) → at es i ≡ linked l f → Holds es i f
held es i l form.Free is = record {
  serial = ap (λ (e : Linked). in_slot (λ o. o.serial) e.occupant) (sym is);
  kind = ap (λ (e : Linked). in_slot (λ o. o.kind) e.occupant) (sym is);
  text = ap (λ (e : Linked). in_slot (λ o. o.text) e.occupant) (sym is);
}
held es i l (form.Taken kind serial text) is = record {
  serial = ap (λ (e : Linked). in_slot (λ o. o.serial) e.occupant) (sym is);
  kind = ap (λ (e : Linked). in_slot (λ o. o.kind) e.occupant) (sym is);
  text = ap (λ (e : Linked). in_slot (λ o. o.text) e.occupant) (sym is);
}

pub read_form : (ps : List (Lead × Form)) (i : ℕ) (f : Form) → HasRight ps i f → Holds (all_linked ps) i f
read_form ps i f h = held (all_linked ps) i h.other f (seen slot_of ps i (h.other, f) blank h.here)

-- Pairs that agree, and the list that they are.
pub record Becomes (ps : List (Lead × Form)) (es : List Linked) : Type 0 where
  pub agree : All IsMatched ps
  pub is : all_linked ps ≡ es

-- A free slot is written.
pub freed : (ps : List (Lead × Form)) (i link : ℕ) → All IsMatched ps
    → Becomes (set ps i (record { tint = tint.Free; link = link }, form.Free)) (set (all_linked ps) i (record { occupant = None; link = link }))
freed ps i link k =
    let new : Lead × Form = (record { tint = tint.Free; link = link }, form.Free) in
    record { agree = All-set IsMatched ps i new refl k; is = map-set slot_of ps i new }

-- The halves of a slot with a vertex that is in no list.
abbrev pub filling : Occupant → Lead × Form
filling o = (record { tint = tint_of o.colour; link = 0 }, form.Taken o.kind o.serial o.text)

-- A vertex is written, in a slot or in the next one.
filled_one : (o : Occupant) → IsMatched (filling o) × (slot_of (filling o) ≡ record { occupant = Some o; link = 0 })
filled_one o = by o.colour where
  by : (c : Colour) → (is_coloured (tint_of c) ≡ true)
      × (linked (record { tint = tint_of c; link = 0 }) (form.Taken o.kind o.serial o.text) ≡ record { occupant = Some (record { serial = o.serial; kind = o.kind; colour = c; text = o.text }); link = 0 })
  by White = (refl, refl)
  by Grey = (refl, refl)
  by Black = (refl, refl)

pub filled_slot : (ps : List (Lead × Form)) (i : ℕ) (o : Occupant) → All IsMatched ps → i < length ps → Becomes (set ps i (filling o)) (written (all_linked ps) i (record { occupant = Some o; link = 0 }))
filled_slot ps i o k within = record {
  agree = All-set IsMatched ps i (filling o) (filled_one o).0 k;
  is = map-set slot_of ps i (filling o) ∙ ap (set (all_linked ps) i) (filled_one o).1 ∙ cond_below i (length (all_linked ps)) _ _ (omega (arith, within, length-map ps slot_of));
}

pub filled_next : (ps : List (Lead × Form)) (i : ℕ) (o : Occupant) → All IsMatched ps → length ps ≤ i → Becomes (ps ++ filling o ∷ []) (written (all_linked ps) i (record { occupant = Some o; link = 0 }))
filled_next ps i o k past = record {
  agree = All-append IsMatched ps (filling o ∷ []) k (All-cons IsMatched (filling o) [] (filled_one o).0 (All-nil IsMatched));
  is = map-append slot_of ps (filling o ∷ []) ∙ cond_above i (length (all_linked ps)) _ _ _ (omega (arith, past, length-map ps slot_of)) (ap (λ (e : Linked). all_linked ps ++ e ∷ []) (filled_one o).1);
}

-- A tint and a link are written.
tinted : (c : Colour) (next : ℕ) (l : Lead) (f : Form) → is_filled f ≡ true
    → (is_coloured (tint_of c) ≡ is_filled f) × (linked (record { tint = tint_of c; link = next }) f ≡ record { occupant = coloured c (linked l f).occupant; link = next })
tinted White next l (form.Taken kind serial text) k = (refl, refl)
tinted Grey next l (form.Taken kind serial text) k = (refl, refl)
tinted Black next l (form.Taken kind serial text) k = (refl, refl)
tinted c next l form.Free k = absurd (cc)

has_form : (l : Lead) (f : Form) → (linked l f).occupant ≢ None → is_filled f ≡ true
has_form l form.Free k = absurd (k refl)
has_form l (form.Taken kind serial text) k = refl

taken_at : (ps : List (Lead × Form)) (i : ℕ) (l : Lead) (f : Form) → slice_get ps i ≡ Some (l, f) → occupant_at (all_linked ps) i ≢ None → is_filled f ≡ true
taken_at ps i l f here some = has_form l f (λ none. some (ap (λ (e : Linked). e.occupant) (seen slot_of ps i (l, f) blank here) ∙ none))

pub painted : (ps : List (Lead × Form)) (i : ℕ) (c : Colour) (next : ℕ) → All IsMatched ps → occupant_at (all_linked ps) i ≢ None
    → Becomes (with_left ps i (record { tint = tint_of c; link = next })) (set (all_linked ps) i (record { occupant = coloured c (occupant_at (all_linked ps) i); link = next }))
painted ps i c next k some =
    let h = left_at ps i some in
    let dyed : Lead = record { tint = tint_of c; link = next } in
    let new = tinted c next h.0 h.1.other (taken_at ps i h.0 h.1.other h.1.here some) in
    record {
      agree = subst (All IsMatched) (sym (with_left_set ps i h.0 dyed h.1)) (All-set IsMatched ps i (dyed, h.1.other) new.0 k);
      is = left_changed slot_of (λ (e : Linked). record { occupant = coloured c e.occupant; link = next }) ps i h.0 dyed blank h.1 new.1;
    }

told : (l : Lead) (f : Form) (new : List ℕ) → (is_filled (telling f new) ≡ is_filled f) × (linked l (telling f new) ≡ record { occupant = with_slot_text new (linked l f).occupant; link = (linked l f).link })
told l form.Free new = (refl, refl)
told l (form.Taken kind serial text) new = (refl, refl)

-- A text is replaced: there was one, and the vertex has the new one.
pub record Tells (ps : List (Lead × Form)) (i : ℕ) (new : List ℕ) (f : Form) : Type 0 where
  pub taken : is_filled f ≡ true
  pub text : in_slot (λ o. o.text) (occupant_at (all_linked ps) i) ≡ form_text f
  pub becomes : Becomes (with_right ps i (telling f new)) (set (all_linked ps) i (record { occupant = with_slot_text new (occupant_at (all_linked ps) i); link = (at (all_linked ps) i).link }))

pub tells : (ps : List (Lead × Form)) (i : ℕ) (new : List ℕ) (f : Form) → All IsMatched ps → occupant_at (all_linked ps) i ≢ None → HasRight ps i f → Tells ps i new f
tells ps i new f k some h =
    let n = told h.other f new in
    record {
      taken = taken_at ps i h.other f h.here some;
      text = sym (read_form ps i f h).text;
      becomes = record {
        agree = subst (All IsMatched) (sym (with_right_set ps i f (telling f new) h)) (All-set IsMatched ps i (h.other, telling f new) (agree_at ps i (h.other, f) k h.here ∙ sym n.0) k);
        is = right_changed slot_of (λ (e : Linked). record { occupant = with_slot_text new e.occupant; link = e.link }) ps i f (telling f new) blank h n.1;
      };
    }
