-- When each command is allowed, and when it may be full.
use Rattle.std.proofs.Common.{◌≡◌, ◌≢◌, ◌<◌, ◌≤◌, ◌⊎◌, ◌&&◌, ◌==◌, ℕ, ◌∷◌, [], List, Bool, true, false, cond, not, refl, sym, ap, inl, inr, arith, Some}
use Rattle.std.proofs.lemmas.Bool.{eq-eqb, eqb-false, eqb-true, ne_eqb, not-true}
use Rattle.tg_rights.specs.Promise.Letters.{Letters, read, write, take, grant, includes, read_alone, write_alone, take_alone, grant_alone}
use Rattle.tg_rights.specs.declared.kind.Kind.{Kind}
use Rattle.tg_rights.specs.declared.command.Command.{Command}
use Rattle.tg_rights.specs.declared.command.Command.TheVariants as command
use Rattle.tg_rights.specs.declared.outcome.Which.{Which}
use Rattle.tg_rights.specs.declared.outcome.Which.TheVariants as which
use Rattle.tg_rights.proofs.LettersLemmas.{are_set_operations}
use Rattle.tg_graph.specs.Promise.EachCommand.{HasOver, HasAllOver, IsAllowedSo, IsFullAtTheLimit, MayCreate, MayEnrol, MayGrant, MayLook, MayRemove, MayRetire, MayTake, MayUse}
use Rattle.tg_graph.specs.Promise.Fullness.{Limits, MayBeFull, NewEdge}
use Rattle.tg_graph.specs.Promise.Laws.{AllMet}
use Rattle.tg_rights.specs.declared.kind.Kind.TheVariants as kind
use Rattle.tg_graph.specs.Promise.Protection.{Protection, has_retired, kind_of, label}
use Rattle.tg_graph.specs.Promise.Rules.{Allowed, is_create, is_new, last_serial}
use Rattle.tg_graph.specs.Promise.Terms.{Does, need, terms}
use Rattle.tg_graph.specs.Promise.Terms as effect
use Rattle.tg_graph.proofs.AllowedIsMetLemmas.{allowed, allowed_to_all, meets}

three_apart : (a b c : Bool) → (not a && not b && not c) ≡ true → (a ≡ false) × (b ≡ false) × (c ≡ false)
three_apart false false false e = (refl, refl, refl)
three_apart true b c e = absurd (cc e)
three_apart false true c e = absurd (cc e)
three_apart false false true e = absurd (cc e)

apart_three : (a b c : Bool) → (a ≡ false) × (b ≡ false) × (c ≡ false) → (not a && not b && not c) ≡ true
apart_three false false false e = refl
apart_three true b c e = absurd (cc e.0)
apart_three false true c e = absurd (cc e.1)
apart_three false false true e = absurd (cc e.2)

module _ (G : Protection) where
  has_all : (from : ℕ) (α : Letters) (to : ℕ) → includes (label G from to) α ≡ true → HasAllOver G from α to
  has_all from α to = (are_set_operations.inclusion (label G from to) α).0

  is_met : (from : ℕ) (α : Letters) (to : ℕ) → HasAllOver G from α to → includes (label G from to) α ≡ true
  is_met from α to = (are_set_operations.inclusion (label G from to) α).1

  has_read : (from to : ℕ) → HasOver G from read to → includes (label G from to) read_alone ≡ true
  has_read from to h = ap (λ (b : Bool). includes (record (label G from to) { read = b }) read_alone) h

  has_write : (from to : ℕ) → HasOver G from write to → includes (label G from to) write_alone ≡ true
  has_write from to h = ap (λ (b : Bool). includes (record (label G from to) { write = b }) write_alone) h

  has_take : (from to : ℕ) → HasOver G from take to → includes (label G from to) take_alone ≡ true
  has_take from to h = ap (λ (b : Bool). includes (record (label G from to) { take = b }) take_alone) h

  has_grant : (from to : ℕ) → HasOver G from grant to → includes (label G from to) grant_alone ≡ true
  has_grant from to h = ap (λ (b : Bool). includes (record (label G from to) { grant = b }) grant_alone) h

module _ (G : Protection) (x : ℕ) where
  apart_from : (y z : ℕ) → (not (x == y) && not (x == z) && not (y == z)) ≡ true → (x ≢ y) × (x ≢ z) × (y ≢ z)
  apart_from y z e = let a = three_apart (x == y) (x == z) (y == z) e in (eqb-false x y a.0, eqb-false x z a.1, eqb-false y z a.2)

  all_apart : (y z : ℕ) → (x ≢ y) × (x ≢ z) × (y ≢ z) → (not (x == y) && not (x == z) && not (y == z)) ≡ true
  all_apart y z a = apart_three (x == y) (x == z) (y == z) (ne_eqb x y a.0, ne_eqb x z a.1, ne_eqb y z a.2)

  may_take : (α : Letters) (y z : ℕ) → Allowed G x (command.Take α y z) → MayTake G x α y z
  may_take α y z a =
      let m = meets G x (command.Take α y z) a in
      record { unretired = m.unretired refl; some = not-true _ m.named; apart = apart_from y z m.apart; over = has_all G x take_alone z m.met.0 take refl; there = has_all G z α y m.met.1.0 }

  take_allowed : (α : Letters) (y z : ℕ) → MayTake G x α y z → Allowed G x (command.Take α y z)
  take_allowed α y z m =
      allowed_to_all G x (command.Take α y z) refl m.unretired (ap not m.some) (all_apart y z m.apart) (has_take G x z m.over, (is_met G z α y m.there, tt)) tt tt

  may_grant : (α : Letters) (y z : ℕ) → Allowed G x (command.Grant α y z) → MayGrant G x α y z
  may_grant α y z a =
      let m = meets G x (command.Grant α y z) a in
      record { unretired = m.unretired refl; some = not-true _ m.named; apart = apart_from y z m.apart; over = has_all G x grant_alone z m.met.0 grant refl; own = has_all G x α y m.met.1.0 }

  grant_allowed : (α : Letters) (y z : ℕ) → MayGrant G x α y z → Allowed G x (command.Grant α y z)
  grant_allowed α y z m =
      allowed_to_all G x (command.Grant α y z) refl m.unretired (ap not m.some) (all_apart y z m.apart) (has_grant G x z m.over, (is_met G x α y m.own, tt)) tt tt

  may_create : (k : Kind) (α : Letters) → Allowed G x (command.Create k α) → MayCreate G x α
  may_create k α a = let m = meets G x (command.Create k α) a in record { unretired = m.unretired refl; some = not-true _ m.named }

  create_allowed : (k : Kind) (α : Letters) → MayCreate G x α → Allowed G x (command.Create k α)
  create_allowed k α m = allowed_to_all G x (command.Create k α) refl m.unretired (ap not m.some) refl tt tt tt

  may_remove : (α : Letters) (y : ℕ) → Allowed G x (command.Remove α y) → MayRemove G x α y
  may_remove α y a =
      let m = meets G x (command.Remove α y) a in
      record { unretired = m.unretired refl; some = not-true _ m.named; apart = eqb-false x y (not-true _ m.apart); own = has_all G x α y m.met.0 }

  remove_allowed : (α : Letters) (y : ℕ) → MayRemove G x α y → Allowed G x (command.Remove α y)
  remove_allowed α y m =
      allowed_to_all G x (command.Remove α y) refl m.unretired (ap not m.some) (ap not (ne_eqb x y m.apart)) (is_met G x α y m.own, tt) tt tt

  may_read : (y : ℕ) → Allowed G x (command.Read y) → MayUse G x read y
  may_read y a =
      let m = meets G x (command.Read y) a in
      record { unretired = m.unretired refl; apart = eqb-false x y (not-true _ m.apart); own = has_all G x read_alone y m.met.0 read refl; document = m.wants }

  read_allowed : (y : ℕ) → MayUse G x read y → Allowed G x (command.Read y)
  read_allowed y m =
      allowed_to_all G x (command.Read y) refl m.unretired refl (ap not (ne_eqb x y m.apart)) (has_read G x y m.own, tt) m.document tt

  -- a read is allowed by what is found in the graph
  pub read_found : (y : ℕ) → has_retired G x ≡ false → x ≢ y → includes (label G x y) read_alone ≡ true → kind_of G y ≡ Some kind.Document → Allowed G x (command.Read y)
  read_found y unretired apart own document = read_allowed y (record { unretired = unretired; apart = apart; own = has_all G x read_alone y own read refl; document = document })

  may_write : (y : ℕ) (text : List ℕ) → Allowed G x (command.Write y text) → MayUse G x write y
  may_write y text a =
      let m = meets G x (command.Write y text) a in
      record { unretired = m.unretired refl; apart = eqb-false x y (not-true _ m.apart); own = has_all G x write_alone y m.met.0 write refl; document = m.wants }

  write_allowed : (y : ℕ) (text : List ℕ) → MayUse G x write y → Allowed G x (command.Write y text)
  write_allowed y text m =
      allowed_to_all G x (command.Write y text) refl m.unretired refl (ap not (ne_eqb x y m.apart)) (has_write G x y m.own, tt) m.document tt

  may_look : (y : ℕ) → Allowed G x (command.Look y) → MayLook G x y
  may_look y a = let m = meets G x (command.Look y) a in record { unretired = m.unretired refl; over = over (y == x) refl m.met } where
    over : (b : Bool) → (y == x) ≡ b → AllMet G (cond b [] (need x take_alone y ∷ [])) → (x ≡ y) ⊎ HasOver G x take y
    over true e h = inl (sym (eqb-true y x e))
    over false e h = inr (has_all G x take_alone y h.0 take refl)

  look_allowed : (y : ℕ) → MayLook G x y → Allowed G x (command.Look y)
  look_allowed y m = allowed_to_all G x (command.Look y) refl m.unretired refl refl (met (y == x) refl m.over) tt tt where
    met : (b : Bool) → (y == x) ≡ b → (x ≡ y) ⊎ HasOver G x take y → AllMet G (cond b [] (need x take_alone y ∷ []))
    met true e over = tt
    met false e (inl is) = absurd (cc (e, eq-eqb y x (sym is)))
    met false e (inr h) = (has_take G x y h, tt)

  may_enrol : (name : List ℕ) (α : Letters) → Allowed G x (command.Enrol name α) → MayEnrol G x name α
  may_enrol name α a = let m = meets G x (command.Enrol name α) a in record { unretired = m.unretired refl; some = not-true _ m.named; free = m.name }

  enrol_allowed : (name : List ℕ) (α : Letters) → MayEnrol G x name α → Allowed G x (command.Enrol name α)
  enrol_allowed name α m = allowed_to_all G x (command.Enrol name α) refl m.unretired (ap not m.some) refl tt tt m.free

  may_retire : Allowed G x command.Retire → MayRetire G x
  may_retire a = let m = meets G x command.Retire a in record { unretired = m.unretired refl; principal = m.principal refl }

  retire_allowed : MayRetire G x → Allowed G x command.Retire
  retire_allowed m = allowed G x command.Retire (record {
    unretired = λ _. m.unretired;
    named = refl;
    apart = refl;
    met = tt;
    wants = tt;
    principal = λ _. m.principal;
    name = tt;
  })

  pub is_allowed_so : IsAllowedSo G x
  is_allowed_so = record {
    takes = λ α y z. (may_take α y z, take_allowed α y z);
    grants = λ α y z. (may_grant α y z, grant_allowed α y z);
    creates = λ k α. (may_create k α, create_allowed k α);
    removes = λ α y. (may_remove α y, remove_allowed α y);
    reads = λ y. (may_read y, read_allowed y);
    writes = λ y text. (may_write y text, write_allowed y text);
    looks = λ y. (may_look y, look_allowed y);
    enrols = λ name α. (may_enrol name α, enrol_allowed name α);
    retires = (may_retire, retire_allowed);
  }

new_edge : (G : Protection) (d : Does) → is_new d ≡ true → NewEdge G d → G.next ≤ last_serial
new_edge G (effect.Joins from α to) new there = absurd (cc new)
new_edge G (effect.Makes k α name) new there = there
new_edge G _ new there = absurd there

serials_first : (limits : Limits) (G : Protection) (x : ℕ) (c : Command) → is_create x c ≡ true → last_serial < G.next → (w : Which) → MayBeFull limits G x c w → w ≡ which.Serials
serials_first limits G x c create none which.Serials full = refl
serials_first limits G x c create none which.Slots full = absurd (let left = full.1 in omega (arith, left, none))
serials_first limits G x c create none which.Cells full = absurd (let left = new_edge G (terms x c).does create full.0 in omega (arith, left, none))

pub full_at_the_limit : (limits : Limits) (G : Protection) (x : ℕ) (c : Command) → IsFullAtTheLimit limits G x c
full_at_the_limit limits G x c = record {
  serials = λ left full. absurd (omega (arith, left, full.1));
  slots = λ left full. absurd (omega (arith, left, full.2));
  cells = λ left full. absurd (omega (arith, left, full.1));
  no_serial = λ create none. (create, none);
  no_slot = λ create left all. (create, left, omega (arith, all));
  no_cell = λ makes all. (makes, omega (arith, all));
  first = λ create none. serials_first limits G x c create none;
  last = refl;
}
