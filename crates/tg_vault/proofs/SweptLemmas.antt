-- A cycle, step by step.
use Rattle.std.proofs.Common.{◌≡◌, ℕ, ◌+◌, ◌≤◌, List, [], ◌∷◌, ◌++◌, length, map, sym, subst, ◌∙◌, inl, inr, Bool, true, false, refl, length-append, arith}
use Rattle.std.specs.Prelude.{sum_by, All}
use Rattle.std.proofs.lemmas.List.Elements.{All-append, All-cons, All-nil}
use Rattle.std.proofs.lemmas.List.Sums.{sum_by-cons, sum_by-append}
use Rattle.tg_lists.proofs.MembershipLemmas.{map_append}
use Rattle.tg_collect.specs.declared.note.Note.{Note}
use Rattle.tg_vault.specs.declared.event.Event.{Event}
use Rattle.tg_vault.specs.declared.event.Event.TheVariants as event
use Rattle.tg_vault.specs.declared.event.Answer.{Answer}
use Rattle.tg_vault.specs.declared.event.Answer.TheVariants as answer
use Rattle.tg_collect.specs.Promise.Readings.{cycle_bound, phase, slot_count, free_slots}
use Rattle.tg_collect.specs.Promise.Stored.{Stored}
use Rattle.tg_collect.specs.Promise.Runs as runs
use Rattle.tg_collect.specs.Promise.Runs.{Collecting, Cycled, begins}
use Rattle.tg_collect.specs.Promise.Views.{Collected, IsStore}
use Rattle.tg_vault.specs.Promise.Contents.{Contents, IsSmall, Keeps, Ties}
use Rattle.tg_vault.specs.Promise.Course.{Course, VaultStep, IsCoherent}
use Rattle.tg_vault.specs.Promise.Cycles.{IsCycle}
use Rattle.tg_vault.proofs.CourseLemmas.{course_keeps, course_more, keeps_on}
use Rattle.tg_vault.proofs.CollectLemmas.{collected_joins, collected_step}
use Rattle.tg_vault.proofs.FitsLemmas.{fits_are}

abbrev pub collects : List Note → List Event
collects notes = map (λ _. event.Collect) notes

abbrev pub noted : List Note → List Answer
noted notes = map (λ n. answer.Noted n) notes

-- the steps so far, none of which ended a cycle
pub record SoFar (v w : Contents) (freed steps : ℕ) : Type 0 where
  pub notes : List Note
  pub course : Course v (collects notes) (noted notes) w
  pub none : All (λ n. n.ended ≡ false) notes
  pub freed_is : freed ≡ sum_by (λ n. n.freed) notes
  pub steps_are : steps ≡ length notes
  pub slots : free_slots v.store + freed ≡ free_slots w.store
  pub left : steps + w.store.left ≤ v.store.left
  pub coherent : IsCoherent w
  pub small : IsSmall w

-- one more step
module _ (v w u : Contents) (freed steps : ℕ) (note : Note) (s : SoFar v w freed steps) (g : VaultStep w event.Collect (answer.Noted note) u) where
  abbrev notes : List Note
  notes = s.notes ++ note ∷ []

  more_course : Course v (collects notes) (noted notes) u
  more_course =
      let long = course_more v (collects s.notes) (noted s.notes) w event.Collect (answer.Noted note) u s.course g in
      subst (λ (es : List Event). Course v es (noted notes) u) (sym (map_append (λ _. event.Collect) s.notes (note ∷ [])))
      (subst (λ (answers : List Answer). Course v (collects s.notes ++ event.Collect ∷ []) answers u) (sym (map_append (λ n. answer.Noted n) s.notes (note ∷ []))) long)

  more_freed : freed + note.freed ≡ sum_by (λ n. n.freed) notes
  more_freed =
      let front = s.freed_is in
      let all = sum_by-append (λ n. n.freed) s.notes (note ∷ []) in
      let last = sum_by-cons (λ (n : Note). n.freed) note [] in
      omega arith

  more_steps : steps + 1 ≡ length s.notes + 1
  more_steps = let front = s.steps_are in omega arith

  steps_below : steps + 1 ≤ v.store.left
  steps_below = let left = s.left in let some = s.coherent.store.some_left in omega arith

  module _ (small : IsSmall u) where
    pub goes_on : note.ended ≡ false → SoFar v u (freed + note.freed) (steps + 1)
    goes_on open_end = record {
      notes = notes;
      course = more_course;
      none = All-append (λ (n : Note). n.ended ≡ false) s.notes (note ∷ []) s.none (All-cons (λ (n : Note). n.ended ≡ false) note [] open_end (All-nil _));
      freed_is = more_freed;
      steps_are = more_steps ∙ sym (length-append s.notes (note ∷ []));
      slots = let before = s.slots in let moved = g.stored.0.free_slots in omega arith;
      left = elim g.stored.0.left [ inl ended ↦ absurd (cc (open_end, ended)) | inr less ↦ (let left = s.left in omega arith) ];
      coherent = g.coherent;
      small = small;
    }

  -- the greatest number of steps
  module _ (coherent : IsCoherent v) where
    pub few_steps : steps + 1 ≤ cycle_bound v.limits.slots v.limits.cells
    few_steps =
        let most = coherent.store.most_left in
        let bound : cycle_bound (slot_count v.store) v.store.cells ≡ cycle_bound v.limits.slots v.limits.cells = λ i. cycle_bound (coherent.ties.slots i) (coherent.ties.cells i) in
        let below = steps_below in
        omega (arith, most, bound, below)

    pub ends_here : note.ended ≡ true → IsCycle v (record { freed = freed + note.freed; steps = steps + 1 }) u
    ends_here ended = record {
      notes = s.notes;
      last = note;
      course = more_course;
      none = s.none;
      ended = ended;
      freed = more_freed;
      steps = more_steps;
      few = few_steps;
    }

-- A collector step of the store is one of the vault.
collects_one : (w : Contents) → IsCoherent w → (t : Stored) → IsStore t → (count : ℕ) (ended : Bool) → Collected w.store t count ended →
    VaultStep w event.Collect (answer.Noted (record { freed = count; phase = phase t; ended = ended })) (record w { store = t })
collects_one w coherent t store count ended c =
    let ties = collected_joins w coherent.ties t coherent.store store count ended c in
    record {
      step = collected_step w coherent.ties t coherent.store store count ended c;
      keeps = record { opening = refl; limits = refl; key = c.key };
      stored = (c, refl);
      told = tt;
      fits = fits_are (record w { store = t }) ties store;
      coherent = record { ties = ties; store = store };
    }

module _ (v : Contents) (coherent : IsCoherent v) (small : IsSmall v) where
  still_small : (t : Stored) → IsSmall (record v { store = t })
  still_small t = record { slots = small.slots; cells = small.cells }

  collected_so_far : (s : Stored) (freed n : ℕ) → Collecting v.store s freed n → SoFar v (record v { store = s }) freed n
  collected_so_far _ _ _ begins = record {
    notes = [];
    course = refl;
    none = All-nil _;
    freed_is = refl;
    steps_are = refl;
    slots = omega arith;
    left = omega arith;
    coherent = coherent;
    small = small;
  }
  collected_so_far _ _ _ (runs.steps a b freed n count rest c store) =
      let before = collected_so_far a freed n rest in
      goes_on v (record v { store = a }) (record v { store = b }) freed n (record { freed = count; phase = phase b; ended = false }) before
      (collects_one (record v { store = a }) before.coherent b store count false c) (still_small b) refl

  -- a cycle of the store is one of the vault
  module _ (t : Stored) (store : IsStore t) (freed n : ℕ) (c : Cycled v.store t freed n) where
    abbrev last : Contents
    last = record v { store = c.last }

    before : SoFar v last freed c.before
    before = collected_so_far c.last freed c.before c.collecting

    ends : VaultStep last event.Collect (answer.Noted (record { freed = 0; phase = phase t; ended = true })) (record v { store = t })
    ends = collects_one last before.coherent t store 0 true c.ends

    pub cycled : IsCycle v (record { freed = freed; steps = n }) (record v { store = t })
    cycled =
        let all = ends_here v last (record v { store = t }) freed c.before (record { freed = 0; phase = phase t; ended = true }) before ends coherent refl in
        let same : freed + 0 ≡ freed = omega arith in
        subst (λ k. IsCycle v (record { freed = freed; steps = k }) (record v { store = t })) (sym c.count) (subst (λ f. IsCycle v (record { freed = f; steps = c.before + 1 }) (record v { store = t })) same all)

    pub cycled_ties : Ties (record v { store = t })
    cycled_ties = ends.coherent.ties

    pub cycled_keeps : Keeps v (record v { store = t })
    cycled_keeps = keeps_on v last (record v { store = t }) (course_keeps v (collects before.notes) (noted before.notes) last before.course) ends.keeps
