-- Roots come and go, and nothing else changes.
use Rattle.std.proofs.Common.{◌≡◌, ℕ, ◌<◌, ◌≤◌, [], ◌∷◌, length, Some, None, ◌⊎◌, inl, inr, Bool, not, ◌==◌, sym, ◌∙◌, subst, ap, refl, arith, get_or, get_or-set_same, length-set, length-append}
use Rattle.tg_collect.proofs.Common.{MAX_PRINCIPALS, SEATS, Contains, contains_append, contains_filter, count_by-le-length, length-filter, IsTarget, AreRoots, Invariant, Reroots, reroots_keeps, same_roots, idle_stays, AtRest, Machine, Root, RootLists, Roots, IsListed, Rerooted, lists_of, bare, body, progress_of, slot_of, Whole, stored, assuming, with_agent, with_principal, with_target, without_principal, pending_of, place, Assumed, AgentLeft, Retired, Stored, get_or-map, Acted, principals, contains_map, contains_mapped}
use Rattle.tg_marking.specs.Promise.Values as values
use Rattle.tg_collect.proofs.SlotLemmas.{contains_seat, listed_root, seat_contains, seat_slot, roots_by}
use Rattle.tg_collect.proofs.ShownLemmas.{place_kept}
use Rattle.tg_collect.proofs.StoreLemmas.{idle_seat}
use Rattle.tg_collect.proofs.SeatLemmas.{bare_seat, listed_seat, set_only, acted_roots, serial_set}

-- Other roots: each was one, or is held, and then a seat's target unless the collector rests; and no target goes.
abbrev pub Known : Machine → RootLists → Root → Type 0
Known m rs q = IsListed (lists_of m.roots) q ⊎ ((Contains rs.targets (Some q) ⊎ (progress_of m ≡ AtRest)) × (place (stored m) q.slot ≡ Some q.serial))

pub rerooted : (m : Machine) (rs : RootLists) → Whole m → length rs.targets ≡ SEATS → length rs.principals ≤ MAX_PRINCIPALS → length rs.agents ≡ SEATS → ((q : Root) → IsListed rs q → Known m rs q)
    → ((i : ℕ) → IsTarget (body m) i → values.HasTarget (bare rs) i) → (n : Machine) → Rerooted m rs n → Whole n × (stored n ≡ record (stored m) { roots = rs })
rerooted m rs w seats few agents known stays n (roots, is) = subst (λ (k : Machine). Whole k × (stored k ≡ record (stored m) { roots = rs })) (sym is) (
  record {
    kept = subst (λ (ls : RootLists). Invariant (record (body m) { roots = bare ls }) (progress_of m)) (sym roots) (reroots_keeps (body m) (record (body m) { roots = bare rs }) (progress_of m) (bare rs) step w.kept);
    cursor = w.cursor;
    roots = subst (λ (ls : RootLists). AreRoots ls (record (body m) { roots = bare ls })) (sym roots) (record {
      seats = seats;
      few = few;
      agents = agents;
      named = λ q l. elim (known q l) [ inl old ↦ w.roots.named q old | inr new ↦ (let place = new.1 in grind arith) ];
    });
  },
  λ i. record {
    slots = (stored m).slots;
    stage = (stored m).stage;
    roots = roots i;
    free_cells = m.heap.free_cells;
    cells = m.heap.cell_count;
    left = same_roots (body m) (progress_of m) m.heap.cell_count (bare (lists_of n.roots)) i;
    key = m.heap.key;
  },
) where
  step : Reroots (body m) (progress_of m) (bare rs) (record (body m) { roots = bare rs })
  step = record {
    comes = roots_by rs _ (λ q l. elim (known q l) [
      | inl old ↦ inl (listed_root (lists_of m.roots) q old)
      | inr new ↦ (
          let k = place_kept (stored m) q.slot q.serial new.1 in
          inr (elim new.0 [ inl target ↦ (let s = contains_seat rs.targets q target in inl (s.0, seat_slot rs.targets s.0 q s.1)) | inr rest ↦ inr rest ], k.0, k.1))
    ]);
    stays = λ i white. stays i;
    is = refl;
  }

-- The target that a seat has got.
pub target_set : (m : Machine) (r : Roots) (seat : ℕ) (t : Root) → Whole m → seat < SEATS → lists_of r ≡ with_target (lists_of m.roots) seat (Some t) → get_or r.targets.items seat None ≡ Some t
target_set m r seat t w l roots = ap (λ (rs : RootLists). get_or rs.targets seat None) roots ∙ get_or-set_same m.roots.targets.items seat (Some t) None (let size = w.roots.seats in omega (arith, l, size))

-- A seat that has no target gets one that is held, who may be its agent too.
module _ (m : Machine) (seat : ℕ) (t : Root) (w : Whole m) (l : seat < SEATS) (idle : pending_of (stored m) seat ≡ None) (here : place (stored m) t.slot ≡ Some t.serial) where
  abbrev rs : RootLists
  rs = with_target (lists_of m.roots) seat (Some t)

  there : Contains rs.targets (Some t)
  there = seat_contains rs.targets seat t (get_or-set_same m.roots.targets.items seat (Some t) None (let size = w.roots.seats in omega (arith, l, size)))

  known : (q : Root) → IsListed rs q → Known m rs q
  known q h = let old = listed_seat (lists_of m.roots) seat (Some t) q h in let new = there in grind arith

  target_stays : (i : ℕ) → IsTarget (body m) i → values.HasTarget (bare rs) i
  target_stays i h = subst (λ (q : values.Roots). values.HasTarget q i) (sym (bare_seat (lists_of m.roots) seat (Some t)))
      (idle_stays (bare (lists_of m.roots)) seat (Some t.slot) i (get_or-map slot_of m.roots.targets.items seat None ∙ ap slot_of (idle_seat m seat idle)) h)

  size : length rs.targets ≡ SEATS
  size = length-set m.roots.targets.items seat (Some t) ∙ w.roots.seats

  pub targeted : (k : Machine) → Rerooted m rs k → Whole k × (stored k ≡ record (stored m) { roots = with_target (stored m).roots seat (Some t) })
  targeted k h = rerooted m rs w size w.roots.few w.roots.agents known target_stays k h

  pub agent_assumed : (k : Machine) → Rerooted m (assuming (lists_of m.roots) seat t) k → Whole k × Assumed (stored m) (stored k) seat t.serial
  agent_assumed k h =
      let done = rerooted m (assuming (lists_of m.roots) seat t) w size w.roots.few (length-set m.roots.agents.items seat (Some t) ∙ w.roots.agents)
      (λ q listed. let only = set_only m.roots.agents.items seat (Some t) (Some q) in let old = known q in let new = there in grind arith) target_stays k h in
      (done.0, record { slot = t.slot; place = here; is = done.1 })

-- A seat's agent goes.
pub agent_left : (m : Machine) (seat : ℕ) → Whole m → (k : Machine) → Rerooted m (with_agent (lists_of m.roots) seat None) k → Whole k × AgentLeft (stored m) (stored k) seat
agent_left m seat w k h = rerooted m (with_agent (lists_of m.roots) seat None) w w.roots.seats w.roots.few (length-set m.roots.agents.items seat None ∙ w.roots.agents)
    (λ q listed. let only = set_only m.roots.agents.items seat None (Some q) in grind arith) (λ i t. t) k h

-- A root is made a principal, or whatever is held if the collector rests.
pub principal_added : (m : Machine) (r : Root) → Whole m → length m.roots.principals < MAX_PRINCIPALS → Known m (lists_of m.roots) r → (k : Machine) → Rerooted m (with_principal (lists_of m.roots) r) k
    → Whole k × (stored k ≡ record (stored m) { roots = with_principal (stored m).roots r })
principal_added m r w room known = rerooted m (with_principal (lists_of m.roots) r) w w.roots.seats (let size = length-append m.roots.principals (r ∷ []) in omega (arith, size, room)) w.roots.agents
    (λ q listed. let split = contains_append m.roots.principals (r ∷ []) q in grind arith) (λ i t. t)

-- A principal retires.
abbrev pub is_other : ℕ → Root → Bool
is_other x r = not (r.serial == x)

pub principal_retired : (m : Machine) (x : ℕ) → Whole m → (k : Machine) → Rerooted m (without_principal (lists_of m.roots) x) k → Whole k × Retired (stored m) (stored k) x
principal_retired m x w = rerooted m (without_principal (lists_of m.roots) x) w w.roots.seats
    (let size = length-filter (is_other x) m.roots.principals in let most = count_by-le-length (is_other x) m.roots.principals in let all = w.roots.few in omega (arith, size, most, all)) w.roots.agents
    (λ q listed. let old = contains_filter (is_other x) m.roots.principals q in grind arith) (λ i t. t)

-- These are session steps of a run.
pub acted_assumed : (v w : Stored) (seat x : ℕ) → Assumed v w seat x → Acted v w None (Some x)
acted_assumed v w seat x a =
    let r : Root = record { serial = x; slot = a.slot } in
    acted_roots v w (assuming v.roots seat r) (Some x) a.is (λ y h. h) (serial_set v.roots.targets seat (Some r)) (serial_set v.roots.agents seat (Some r))

pub acted_left : (v w : Stored) (seat : ℕ) → AgentLeft v w seat → Acted v w None None
acted_left v w seat is = acted_roots v w (with_agent v.roots seat None) None is (λ y h. h) (λ y h. inl h) (serial_set v.roots.agents seat None)

pub acted_retired : (v w : Stored) (x : ℕ) → Retired v w x → Acted v w None None
acted_retired v w x is = acted_roots v w (without_principal v.roots x) None is (λ y h.
    let r = contains_mapped (λ (r : Root). r.serial) (without_principal v.roots x).principals y h in
    subst (Contains (principals v)) r.2 (contains_map (λ (r : Root). r.serial) v.roots.principals r.0 (contains_filter (is_other x) v.roots.principals r.0 r.1).0)) (λ y h. inl h) (λ y h. inl h)
