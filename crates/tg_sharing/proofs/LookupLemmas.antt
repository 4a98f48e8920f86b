-- Why a list of vertices that could come to have rights, or over which one could, has all of them and no other.
use Rattle.std.proofs.Common.{◌≡◌, ℕ, List, [], ◌∷◌, Bool, true, false, cond, refl, sym, ap, subst, ◌∙◌, ◌⊎◌, inl, inr, ◌==◌, ◌||◌, Some, None}
use Rattle.std.specs.Prelude.{Option, filter_map}
use Rattle.std.specs.List.{cons_option, list_any}
use Rattle.std.specs.Cmp.{unsigned_tied}
use Rattle.std.specs.Ordering.{eq_by_cmp, nat_cmp}
use Rattle.std.specs.BTreeMap as tree
use Rattle.std.proofs.lemmas.Option.{same_Some}
use Rattle.std.proofs.lemmas.Bool.{eqb-true, eq-eqb, or_left, or_right}
use Rattle.tg_lists.specs.Promise.Membership.{Contains}
use Rattle.tg_rights.specs.Promise.Letters.{Letters, Right, take, grant, has, includes, is_none}
use Rattle.tg_rights.proofs.LettersLemmas.{are_set_operations, right_some, some_right}
use Rattle.tg_graph.specs.Promise.Derivations.{CanShare}
use Rattle.tg_graph.specs.Promise.Laws.{CommandsKeepGraphs}
use Rattle.tg_graph.specs.Promise.Protection.{IsEdge, IsGraph, IsVertex, Protection, label}
use Rattle.tg_sharing.specs.Promise.Fetching.{alone}
use Rattle.tg_sharing.specs.Promise.Laws.{WithheldForEver}
use Rattle.tg_sharing.specs.Promise.Lookups.{AreListed, RunsOut, holder_goal, present, target_goal}
use Rattle.tg_sharing.specs.Inner.Lookups.{AreEnds, holder_of, is_unknown, target_found}
use Rattle.tg_sharing.specs.Promise.Prospects.{AreCould, IsCould, IsProspect}
use Rattle.tg_graph.proofs.RollLemmas.{any_is}
use Rattle.tg_graph.specs.Promise.EachCommand.{HasOver}
use Rattle.tg_sharing.specs.Promise.Spans.{AreClosed}
use Rattle.tg_sharing.specs.declared.prospect.Could.{Could}
use Rattle.tg_sharing.specs.declared.prospect.Could.TheVariants as could
use Rattle.tg_sharing.specs.declared.prospect.Prospect.{Prospect}
use Rattle.tg_sharing.proofs.GrowingLemmas.{includes_alone}
use Rattle.tg_sharing.proofs.SharingLemmas.{never_itself}

-- ---- lists

-- an element of what is kept comes from one that is kept as it
abbrev ComesFrom : {X Y : Type 0} → (X → Option Y) → List X → Y → Type 0
ComesFrom {X} f xs y = (x : X) × Contains xs x × (f x ≡ Some y)

pub kept_from : {X Y : Type 0} (f : X → Option Y) (xs : List X) (y : Y) → Contains (filter_map f xs) y → ComesFrom f xs y
kept_from f [] y h = absurd h
kept_from {Y = Y} f (x ∷ xs) y h = by (f x) refl (kept_from f xs y) h where
  later : ComesFrom f xs y → ComesFrom f (x ∷ xs) y
  later rest = (rest.0, inr rest.1, rest.2)

  by : (o : Option Y) → f x ≡ o → (Contains (filter_map f xs) y → ComesFrom f xs y) → Contains (cons_option o (filter_map f xs)) y → ComesFrom f (x ∷ xs) y
  by None is rest h = later (rest h)
  by (Some z) is rest (inl same) = (x, inl refl, is ∙ ap Some (sym same))
  by (Some z) is rest (inr h) = later (rest h)

pub from_kept : {X Y : Type 0} (f : X → Option Y) (xs : List X) (x : X) (y : Y) → Contains xs x → f x ≡ Some y → Contains (filter_map f xs) y
from_kept f [] x y h is = absurd h
from_kept f (z ∷ zs) x y (inl same) is = subst (λ o. Contains (cons_option o (filter_map f zs)) y) (sym (ap f (sym same) ∙ is)) (inl refl)
from_kept {Y = Y} f (z ∷ zs) x y (inr h) is = by (f z) (from_kept f zs x y h is) where
  by : (o : Option Y) → Contains (filter_map f zs) y → Contains (cons_option o (filter_map f zs)) y
  by None rest = rest
  by (Some w) rest = inr rest

-- if no element passes the test, each fails it
pub none_passes : {X : Type 0} (p : X → Bool) (xs : List X) (x : X) → list_any p xs ≡ false → Contains xs x → p x ≡ false
none_passes p [] x none h = absurd h
none_passes p (y ∷ ys) x none (inl same) = ap p same ∙ first (p y) (list_any p ys) none where
  first : (a b : Bool) → (a || b) ≡ false → a ≡ false
  first true b h = absurd (cc h)
  first false b h = refl
none_passes p (y ∷ ys) x none (inr h) = none_passes p ys x (second (p y) (list_any p ys) none) h where
  second : (a b : Bool) → (a || b) ≡ false → b ≡ false
  second true b h = absurd (cc h)
  second false b h = h

-- a number is in a list or not
abbrev is_in : ℕ → List ℕ → Bool
is_in v xs = list_any (eq_by_cmp nat_cmp v) xs

pub in_contains : (v : ℕ) (xs : List ℕ) → is_in v xs ≡ true → Contains xs v
in_contains v xs h =
    let found = any_is (eq_by_cmp nat_cmp v) xs h in
    subst (Contains xs) (sym (eqb-true v found.0 (sym (unsigned_tied v found.0) ∙ found.2))) found.1

pub contains_in : (v : ℕ) (xs : List ℕ) → Contains xs v → is_in v xs ≡ true
contains_in v [] h = absurd h
contains_in v (x ∷ xs) (inl same) = or_left _ _ (unsigned_tied v x ∙ eq-eqb v x same)
contains_in v (x ∷ xs) (inr h) = or_right _ _ (contains_in v xs h)

-- ---- the ends of edges

-- one more number in a set
pub put_in : (x v : ℕ) (new old : List ℕ) → is_in v new ≡ cond (tree.is_at (nat_cmp x) v) true (is_in v old) → is_in v new ≡ true → (v ≡ x) ⊎ (is_in v old ≡ true)
put_in x v new old is h = by (tree.is_at (nat_cmp x) v) refl (sym is ∙ h) where
  by : (b : Bool) → tree.is_at (nat_cmp x) v ≡ b → cond b true (is_in v old) ≡ true → (v ≡ x) ⊎ (is_in v old ≡ true)
  by true at h = inl (sym (eqb-true x v (sym (unsigned_tied x v) ∙ at)))
  by false at h = inr h

pub stays_in : (x v : ℕ) (new old : List ℕ) → is_in v new ≡ cond (tree.is_at (nat_cmp x) v) true (is_in v old) → is_in v old ≡ true → is_in v new ≡ true
stays_in x v new old is h = is ∙ by (tree.is_at (nat_cmp x) v) where
  by : (b : Bool) → cond b true (is_in v old) ≡ true
  by true = refl
  by false = h

pub comes_in : (x : ℕ) (new old : List ℕ) → is_in x new ≡ cond (tree.is_at (nat_cmp x) x) true (is_in x old) → is_in x new ≡ true
comes_in x new old is = is ∙ ap (λ b. cond b true (is_in x old)) (unsigned_tied x x ∙ eq-eqb x x refl)

-- ---- who could come to have the rights

-- from a vertex without edges nothing leads on
module _ (G : Protection) (g : IsGraph G) (law : WithheldForEver) (ends : List ℕ) (are : AreEnds G ends) (v : ℕ) (out : Contains ends v → ⊥) where
  no_out : (r : Right) (y : ℕ) → HasOver G v r y → ⊥
  no_out r y h = out (are.whole v y (right_some (label G v y) r h)).0

  no_in : (r : Right) (x : ℕ) → HasOver G x r v → ⊥
  no_in r x h = out (are.whole x v (right_some (label G x v) r h)).1

  alone_closed : AreClosed G v (λ u. u == v) (λ u. u == v)
  alone_closed = record {
    own = λ act. eq-eqb v v refl;
    initial = λ u h. absurd (no_in grant u h);
    taken = λ u w p h. absurd (no_out take w (subst (λ (x : ℕ). HasOver G x take w) (eqb-true u v p) h));
    granting = λ u w p h. absurd (no_out grant w (subst (λ (x : ℕ). HasOver G x grant w) (eqb-true u v p) h));
    granted = λ u w h p. absurd (no_in grant u (subst (λ (x : ℕ). HasOver G u grant x) (eqb-true w v p) h));
    reaching = λ u w h p. absurd (no_in take u (subst (λ (x : ℕ). HasOver G u take x) (eqb-true w v p) h));
    spans = λ w act p. p;
    bridges = λ w act p. p;
  }

  pub apart_never : (α : Letters) (to : ℕ) → is_none α ≡ false → IsVertex G v → IsVertex G to → CanShare G (holder_goal α to v) → ⊥
  apart_never α to some there end =
      let wanted = some_right α some in
      law G (holder_goal α to v) (λ u. u == v) (λ u. u == v) wanted.0 g (g.below_next v there) (g.below_next to end) alone_closed wanted.1
      (λ u either h. no_out wanted.0 to (subst (λ (x : ℕ). HasOver G x wanted.0 to) (elim either [ inl is ↦ is | inr p ↦ eqb-true u v p ]) h))

-- what is told of a vertex lists it, if it could
told_of : (G : Protection) (α : Letters) (to v w : ℕ) (c : Could) (β : Letters) → holder_of G α to w c ≡ Some (v, β) → (c ≡ could.Ever) × (v ≡ w) × (β ≡ present G (holder_goal α to w))
told_of G α to v w could.Ever β is =
    let pair : ℕ × Letters = (v, β) in
    let listed : ℕ × Letters = (w, present G (holder_goal α to w)) in
    let same : pair ≡ listed = sym (same_Some listed pair is) in
    (refl, ap (λ (p : ℕ × Letters). p.0) same, ap (λ (p : ℕ × Letters). p.1) same)
told_of G α to v w _ β is = absurd (cc is)

module _ (G : Protection) (g : IsGraph G) (law : WithheldForEver) (α : Letters) (to : ℕ) (some : is_none α ≡ false) (end : IsVertex G to) (ends asked : List ℕ) (are : AreEnds G ends) (same : asked ≡ ends)
    (found : List (ℕ × Could)) (those : AreCould G α to asked found) where
  -- serials run out, if that is why it is not known of one
  pub unknown_runs_out : list_any (λ p. is_unknown p.1) found ≡ true → RunsOut G
  unknown_runs_out h =
      let one = any_is (λ (p : ℕ × Could). is_unknown p.1) found h in
      by one.0.0 one.0.1 one.2 (those.sound one.0.0 one.0.1 one.1).2
    where
      by : (v : ℕ) (c : Could) → is_unknown c ≡ true → IsCould G (record { from = v; to = to; rights = α }) c → RunsOut G
      by v could.Unknown h is = is
      by v _ h is = absurd (cc h)

  ever_told : (v : ℕ) → IsVertex G v → CanShare G (holder_goal α to v) → (c : Could) → is_unknown c ≡ false → IsCould G (holder_goal α to v) c → c ≡ could.Ever
  ever_told v there can could.Never known is = absurd (is can)
  ever_told v there can could.Ever known is = refl
  ever_told v there can could.Unknown known is = absurd (cc known)

  asked_for : (v : ℕ) → IsVertex G v → CanShare G (holder_goal α to v) → Contains asked v
  asked_for v there can = by (is_in v ends) refl where
    by : (b : Bool) → is_in v ends ≡ b → Contains asked v
    by true is = subst (λ (l : List ℕ). Contains l v) (sym same) (in_contains v ends is)
    by false is = absurd (apart_never G g law ends are v (λ h. absurd (cc (is, contains_in v ends h))) α to some there end can)

  pub holders_listed : list_any (λ p. is_unknown p.1) found ≡ false → (list : List (ℕ × Letters)) → list ≡ filter_map (λ p. holder_of G α to p.0 p.1) found → AreListed G (holder_goal α to) list
  holders_listed known list is v β = (
    (λ h.
        let one = kept_from (λ (p : ℕ × Could). holder_of G α to p.0 p.1) found (v, β) (subst (λ (l : List (ℕ × Letters)). Contains l (v, β)) is h) in
        let told = told_of G α to v one.0.0 one.0.1 β one.2 in
        let sound = those.sound one.0.0 one.0.1 one.1 in (
          subst (IsVertex G) (sym told.1) sound.1,
          subst (λ (x : ℕ). CanShare G (holder_goal α to x)) (sym told.1) (subst (IsCould G (holder_goal α to one.0.0)) told.0 sound.2),
          told.2 ∙ ap (λ (x : ℕ). present G (holder_goal α to x)) (sym told.1),
        )),
    (λ all.
        let one = those.whole v (asked_for v all.0 all.1) all.0 in
        let sound = those.sound v one.0 one.1 in
        let ever = ever_told v all.0 all.1 one.0 (none_passes (λ (p : ℕ × Could). is_unknown p.1) found (v, one.0) known one.1) sound.2 in
        subst (λ (l : List (ℕ × Letters)). Contains l (v, β)) (sym is)
        (from_kept (λ (p : ℕ × Could). holder_of G α to p.0 p.1) found (v, one.0) (v, β) one.1
        (ap (holder_of G α to v) ever ∙ ap (λ (l : Letters). Some (v, l)) (sym all.2)))),
  )

-- ---- over what one could come to have them

-- what is there for all rights is there for each
one_shared : (G : Protection) (from y : ℕ) (α : Letters) (r : Right) → has α r ≡ true → CanShare G (target_goal α from y) → CanShare G (record { from = from; to = y; rights = alone r })
one_shared G from y α r there can = record {
  steps = can.steps;
  reached = can.reached;
  derived = can.derived;
  shared = includes_alone (label can.reached from y) r ((are_set_operations.inclusion (label can.reached from y) α).0 can.shared r there);
}

-- a right is there or not
has_or_not : (H : Protection) (x : ℕ) (r : Right) (y : ℕ) → HasOver H x r y ⊎ (HasOver H x r y → ⊥)
has_or_not H x r y = by (has (label H x y) r) where
  by : (b : Bool) → (b ≡ true) ⊎ (b ≡ true → ⊥)
  by true = inl refl
  by false = inr (λ e. absurd (cc e))

target_told : (G : Protection) (α : Letters) (from v w : ℕ) (l β : Letters) → target_found G α from w l ≡ Some (v, β) → (includes l α ≡ true) × (v ≡ w) × (β ≡ present G (target_goal α from w))
target_told G α from v w l β is = by (includes l α) refl is where
  listed : ℕ × Letters
  listed = (w, present G (target_goal α from w))

  pair : ℕ × Letters
  pair = (v, β)

  by : (b : Bool) → includes l α ≡ b → cond b (Some listed) None ≡ Some pair → (includes l α ≡ true) × (v ≡ w) × (β ≡ present G (target_goal α from w))
  by true there is = let same : pair ≡ listed = sym (same_Some listed pair is) in (there, ap (λ (p : ℕ × Letters). p.0) same, ap (λ (p : ℕ × Letters). p.1) same)
  by false there is = absurd (cc is)

module _ (keep : CommandsKeepGraphs) (G : Protection) (g : IsGraph G) (α : Letters) (from : ℕ) (some : is_none α ≡ false) (p : Prospect) (is : IsProspect G from p) where
  reached_all : (y : ℕ) → IsVertex G y → CanShare G (target_goal α from y) → includes (label is.reached from y) α ≡ true
  reached_all y there can = (are_set_operations.inclusion (label is.reached from y) α).1 (λ r h. elim (has_or_not is.reached from r y) [
    | inl has ↦ has
    | inr lacks ↦ absurd (is.whole y r there (λ same. never_itself keep G (target_goal α from y) g (sym same) some can) lacks (one_shared G from y α r h can))
  ])

  an_edge : (y : ℕ) → includes (label is.reached from y) α ≡ true → IsEdge is.reached from y
  an_edge y all = let r = some_right α some in right_some (label is.reached from y) r.0 ((are_set_operations.inclusion (label is.reached from y) α).0 all r.0 r.1)

  pub targets_listed : (list : List (ℕ × Letters)) → list ≡ filter_map (λ q. target_found G α from q.0 q.1) p.labels.items → AreListed G (target_goal α from) list
  targets_listed list kept v β = (
    (λ h.
        let one = kept_from (λ (q : ℕ × Letters). target_found G α from q.0 q.1) p.labels.items (v, β) (subst (λ (l : List (ℕ × Letters)). Contains l (v, β)) kept h) in
        let told = target_told G α from v one.0.0 one.0.1 β one.2 in
        let listed = (is.labels one.0.0 one.0.1).0 one.1 in
        let shared : includes (label is.reached from one.0.0) α ≡ true = ap (λ (l : Letters). includes l α) (sym listed.2) ∙ told.0 in (
          subst (IsVertex G) (sym told.1) listed.0,
          subst (λ (x : ℕ). CanShare G (target_goal α from x)) (sym told.1) (record { steps = p.steps.items; reached = is.reached; derived = is.derived; shared = shared }),
          told.2 ∙ ap (λ (x : ℕ). present G (target_goal α from x)) (sym told.1),
        )),
    (λ all.
        let shared = reached_all v all.0 all.1 in
        let l = label is.reached from v in
        subst (λ (k : List (ℕ × Letters)). Contains k (v, β)) (sym kept)
        (from_kept (λ (q : ℕ × Letters). target_found G α from q.0 q.1) p.labels.items (v, l) (v, β) ((is.labels v l).1 (all.0, an_edge v shared, refl))
        (ap (λ (b : Bool). cond b (Some (v, present G (target_goal α from v))) None) shared ∙ ap (λ (k : Letters). Some (v, k)) (sym all.2)))),
  )
