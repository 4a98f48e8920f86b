-- A machine that holds the first principals, before any cycle.
use Rattle.std.proofs.Common.{◌≡◌, ◌≢◌, ℕ, zero, suc, ◌+◌, ◌<◌, List, [], ◌∷◌, ◌++◌, length, map, replicate, Option, Some, None, ◌⊎◌, inl, inr, Ok, true, sym, ◌∙◌, subst, ap, refl, arith, add-one, get_or, set, length-set, length-append}
use Rattle.tg_collect.proofs.Common.{cases_eq, MAX_PRINCIPALS, SEATS, Contains, contains_left, contains_right, length-replicate, map_append, Subject, Protection, subjects-within, principal_count, principals_are_few, Table, Free, Has, White, Grey, indices, fresh, nones_length, nones_free, indices_length, IsHeap, Spot, AtRest, IsScanned, slot_mark, new_colour, blank_keeps, Root, Idle, Machine, RootLists, IsListed, lists_of, with_principal, body, progress_in, progress_of, Whole, Puts, Rerooted, Stored, stored, kept_from, spot_at, place, root_serial, vertices, triples, IsParkedIn, first_serials, Opens, OpeningsCanBeStored, first_root, first_roots, HasOpened, OpensFirst, KeepsSize}
use Rattle.std.specs.FinMap as finmap
use Rattle.std.specs.FinSet as finset
use Rattle.tg_slots.specs.Promise.Table as table
use Rattle.tg_marking.specs.Promise.Values as values
use Rattle.tg_collect.specs.Promise.Held as graph
use Rattle.tg_graph.proofs.OpeningsFitLemmas as fitting
use Rattle.tg_graph.specs.Promise.Opening.{opening}
use Rattle.tg_collect.proofs.SlotLemmas.{zip_size, at_free, root_listed, free_so}
use Rattle.tg_collect.proofs.StoreLemmas.{named_so, no_black}
use Rattle.tg_collect.proofs.RootLemmas.{principal_added}
use Rattle.tg_collect.proofs.VertexLemmas.{Came, came}

-- Seats without a root, and the first principals.
no_seat : {X : Type 0} (n : ℕ) (x : X) → Contains (replicate n None) (Some x) → ⊥
no_seat zero x h = h
no_seat (suc n) x (inl e) = cc
no_seat (suc n) x (inr h) = no_seat n x h

seat_idle : (n k : ℕ) → get_or (map (λ o. root_serial o) (replicate n None)) k None ≡ None
seat_idle zero k = refl
seat_idle (suc n) zero = refl
seat_idle (suc n) (suc k) = seat_idle n k

length-first : (n : ℕ) → length (first_roots n) ≡ n
length-first zero = refl
length-first (suc n) = let a = length-append (first_roots n) (first_root n ∷ []) in let r = length-first n in omega (arith, a, r)

first_listed : (n i : ℕ) → i < n → Contains (first_roots n) (first_root i)
first_listed zero i b = absurd (omega (arith, b))
first_listed (suc n) i b = elim (cases_eq i n) [
  | inl is ↦ contains_right (first_roots n) (first_root n ∷ []) (first_root i) (inl (ap first_root is))
  | inr other ↦ contains_left (first_roots n) (first_root n ∷ []) (first_root i) (first_listed n i (omega (arith, b, other)))
]

serials_first : (n : ℕ) → map (λ (r : Root). r.serial) (first_roots n) ≡ first_serials n
serials_first zero = refl
serials_first (suc n) = map_append (λ (r : Root). r.serial) (first_roots n) (first_root n ∷ []) ∙ (λ i. serials_first n i ++ add-one n i ∷ [])

-- At rest nothing is parked.
pub none_parked : (m : Machine) → m.progress ≡ Idle → (x : ℕ) → IsParkedIn (stored m) x → ⊥
none_parked m idle x h = grind arith

module _ (m : Machine) (count : ℕ) (o : HasOpened m count) where
  pub count_is : length m.roots.principals ≡ count
  count_is = ap (λ (r : RootLists). length r.principals) o.roots ∙ length-first count

  pub at_rest : progress_of m ≡ AtRest
  at_rest = ap (progress_in m.heap) o.progress

  pub principal_at : (i : ℕ) → i < count → place (stored m) i ≡ Some (i + 1)
  principal_at i b = named_so m o.whole (first_root i) (inr (inl (subst (λ (r : RootLists). Contains r.principals (first_root i)) (sym o.roots) (first_listed count i b))))

  not_grey : (i : ℕ) → slot_mark (body m) i ≢ Has Grey
  not_grey i e = elim (o.whole.kept.greys.known i e) [ inl w ↦ subst (λ (l : List ℕ). Contains l i) o.grey w | inr s ↦ subst (λ (p : values.Progress). IsScanned p i) at_rest s ]

  pub marks_opened : (i : ℕ) → (slot_mark (body m) i ≡ Free) ⊎ (slot_mark (body m) i ≡ Has White)
  marks_opened i = let black = no_black (body m) (progress_of m) o.whole.kept.phase (ap values.shown at_rest) i in let grey = not_grey i in grind arith

  pub opened_opens : (slots cells : ℕ) → IsHeap m.heap → length m.heap.table.slots ≡ slots → m.heap.cell_count ≡ cells → Opens (stored m) count slots cells
  opened_opens slots cells ok es ec = record {
    vertices = o.vertices;
    principals = ap (λ (r : RootLists). map (λ (q : Root). q.serial) r.principals) o.roots ∙ serials_first count;
    places = principal_at;
    stage = ap values.shown at_rest;
    idle = λ seat. ap (λ (r : RootLists). get_or (map (λ q. root_serial q) r.targets) seat None) o.roots ∙ seat_idle SEATS seat;
    agents = λ seat. ap (λ (r : RootLists). get_or (map (λ q. root_serial q) r.agents) seat None) o.roots ∙ seat_idle SEATS seat;
    marks = marks_opened;
    slots = zip_size m.heap.table.slots m.heap.lists ∙ es;
    free = let f = free_so m.heap (lists_of m.roots) ok in let g = ap length o.free in let l = indices_length count o.others in let a = o.all in omega (arith, f, g, l, a, es);
    cells = ec;
  }

-- A blank machine.
none_kept : (p : values.Stage) (k : ℕ) (os : List (Option Spot)) → ((i : ℕ) → get_or os i None ≡ None) → (graph.entries (kept_from p k os) ≡ []) × (graph.triples (kept_from p k os) ≡ [])
none_kept p k [] e = (refl, refl)
none_kept p k (None ∷ os) e = none_kept p (suc k) os (λ i. e (suc i))
none_kept p k (Some s ∷ os) e = absurd (let u : Some s ≡ None = e 0 in cc)

pub blank_first : (m : Machine) (slots : ℕ) → m.heap.table ≡ fresh slots → m.progress ≡ Idle
    → lists_of m.roots ≡ record { targets = replicate SEATS None; principals = []; agents = replicate SEATS None } → OpensFirst m 0
blank_first m slots is idle roots = record {
  opened = record {
    whole = record {
      kept = rw idle (blank_keeps (body m) none (ap (λ (t : Table). t.grey) is) (λ i r. let q = root_listed (lists_of m.roots) i r in nobody q.0 q.1));
      cursor = rw idle tt;
      roots = record {
        seats = ap (λ (r : RootLists). length r.targets) roots ∙ length-replicate {A = Option Root} SEATS None;
        few = let e = ap (λ (r : RootLists). length r.principals) roots in omega (arith, e);
        agents = ap (λ (r : RootLists). length r.agents) roots ∙ length-replicate {A = Option Root} SEATS None;
        named = λ r h. absurd (nobody r h);
      };
    };
    vertices = ap (λ es. finmap.from_entries es) (none_kept (stored m).stage 0 (stored m).slots none).0;
    roots = roots;
    progress = idle;
    grey = ap (λ (t : Table). t.grey) is;
    others = slots;
    free = ap (λ (t : Table). t.free) is;
    all = let l = ap (λ (t : Table). length t.slots) is in let n = nones_length slots in omega (arith, l, n);
  };
  triples = ap (λ ts. finset.from_list ts) (none_kept (stored m).stage 0 (stored m).slots none).1;
} where
  none : (i : ℕ) → spot_at (stored m) i ≡ None
  none i = at_free m.heap (lists_of m.roots) i (ap (λ (t : Table). table.mark t i) is ∙ nones_free slots i)

  nobody : (q : Root) → IsListed (lists_of m.roots) q → ⊥
  nobody q h = by (subst (λ (rs : RootLists). IsListed rs q) roots h) where
    by : IsListed (record { targets = replicate SEATS None; principals = []; agents = replicate SEATS None }) q → ⊥
    by (inl t) = no_seat SEATS q t
    by (inr (inl p)) = p
    by (inr (inr a)) = no_seat SEATS q a

-- One more principal, in the first free slot.
taken : (first others i : ℕ) (rest : List ℕ) → i ∷ rest ≡ indices first others → (i ≡ first) × (r : ℕ) × (others ≡ suc r) × (rest ≡ indices (suc first) r)
taken first zero i rest e = absurd (cc)
taken first (suc r) i rest e = (cc, r, refl, cc)

pub principal_opens : (m a n : Machine) (count i : ℕ) (text : List ℕ) → IsHeap m.heap → OpensFirst m count → count < MAX_PRINCIPALS → text ≡ [] → Puts m (count + 1) Subject text (Ok i) a
    → Rerooted a (with_principal (lists_of a.roots) (record { serial = count + 1; slot = i })) n → OpensFirst n (count + 1) × KeepsSize m n
principal_opens m a n count i text ok first few bare put added = (
  subst (OpensFirst n) (sym (add-one count)) (record {
    opened = record {
      whole = done.0;
      vertices = ap (λ (v : Stored). vertices v) done.1 ∙ ap (λ (g : Protection). g.vertices) (c.graph 0) ∙ (λ z. finmap.insert (o.vertices z) (add-one count z) (record { kind = Subject; text = bare z }));
      roots = added.0 ∙ (λ z. with_principal (lists_of (put.2 z).roots) (record { serial = count + 1; slot = at.0 z })) ∙ ap (λ (r : RootLists). with_principal r (first_root count)) o.roots;
      progress = ap (λ (x : Machine). x.progress) same ∙ o.progress;
      grey = ap (λ (x : Machine). x.heap.table.grey) same ∙ o.grey;
      others = at.1;
      free = ap (λ (x : Machine). x.heap.table.free) same ∙ at.3;
      all = let l = size in let k = o.all in let r = at.2 in omega (arith, l, k, r);
    };
    triples = ap (λ (v : Stored). triples v) done.1 ∙ ap (λ (g : Protection). g.triples) (c.graph 0) ∙ first.triples;
  }),
  record { slots = size; cells = ap (λ (x : Machine). x.heap.cell_count) same; key = ap (λ (x : Machine). x.heap.key) same },
) where
  o : HasOpened m count
  o = first.opened

  at : (i ≡ count) × (r : ℕ) × (o.others ≡ suc r) × (put.0 ≡ indices (suc count) r)
  at = taken count o.others i put.0 (sym put.1 ∙ o.free)

  c : Came m a i (count + 1) Subject text
  c = came m a i (count + 1) Subject text ok o.whole
      (λ h. let l = subjects-within count (count + 1) (subst (λ vs. finmap.contains_key vs (count + 1) ≡ true) o.vertices h) in omega (arith, l)) (none_parked m o.progress (count + 1)) put

  same : n ≡ record m { heap = record m.heap { table = record m.heap.table { slots = set m.heap.table.slots i (Some (record { serial = count + 1; kind = Subject; colour = new_colour (stored m).stage i; text = text })); free = put.0 } }; roots = n.roots }
  same = added.1 ∙ ap (λ (x : Machine). record x { roots = n.roots }) put.2

  size : length n.heap.table.slots ≡ length m.heap.table.slots
  size = ap (λ (x : Machine). length x.heap.table.slots) same ∙ length-set m.heap.table.slots i _

  done : Whole n × (stored n ≡ record (stored a) { roots = with_principal (stored a).roots (record { serial = count + 1; slot = i }) })
  done = principal_added a (record { serial = count + 1; slot = i }) c.whole (let l = ap (λ (x : Machine). length x.roots.principals) put.2 in let k = count_is m count o in omega (arith, l, k, few))
      (inr (inr (ap progress_of put.2 ∙ at_rest m count o), c.here)) n added

-- A configuration without a fault opens a graph that a store can open.
pub openings_can_be_stored : OpeningsCanBeStored
unfolding opening
openings_can_be_stored c sound =
    let fit = fitting.openings_fit c sound in
    record {
      low_slots = fit.4;
      high_slots = fit.5;
      low_cells = fit.6;
      high_cells = fit.7;
      opening = record {
        count = principal_count c;
        few = principals_are_few c sound;
        vertices = refl;
        slots = fit.2;
        cells = let few = fit.1 in let most = fit.3 in omega arith;
      };
    }
