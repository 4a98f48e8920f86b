-- What a store holds, in lists that make a graph, and that graph.
use Rattle.std.proofs.Common.{◌≡◌, ◌≢◌, ◌<◌, ◌≤◌, ℕ, List, [], ◌∷◌, length, map, filter, Bool, true, false, cond, ◌&&◌, is_some, Some, None, true≢false, refl, sym, ap, subst, ◌∙◌, inl, inr, arith}
use Rattle.std.specs.Prelude.{◌↔◌, Option}
use Rattle.std.specs.Option.{option_map}
use Rattle.std.specs.Ordering.{is_eq}
use Rattle.std.specs.FinMap as map
use Rattle.std.specs.FinSet as set
use Rattle.std.proofs.lemmas.Bool.{and_from, and_parts}
use Rattle.tg_lists.specs.Promise.Membership.{Contains, Distinct}
use Rattle.tg_lists.proofs.MembershipLemmas.{contains_map}
use Rattle.tg_rights.specs.Promise.Letters.{Letters, is_none}
use Rattle.tg_rights.specs.declared.kind.Kind.{Kind}
use Rattle.tg_rights.specs.declared.kind.Kind.TheVariants as kind
use Rattle.tg_rights.specs.declared.limits.TheConstants.{MAX_PRINCIPALS}
use Rattle.tg_graph.specs.declared.member.Member.{Member}
use Rattle.tg_graph.specs.declared.parts.Parts.{Parts}
use Rattle.tg_graph.specs.declared.vertex.Vertex.{Vertex}
use Rattle.tg_graph.specs.Promise.Protection.{Rise, IsGraph, IsVertex, has_retired, vertex, Triple}
use Rattle.tg_graph.specs.Promise.Opening.{ListedEdge}
use Rattle.tg_graph.specs.Promise.Parts.{AreParts, HasVertex, Listed, Lists, Rises}
use Rattle.tg_graph.specs.Inner.Parts.{member_of, members_of}
use Rattle.tg_graph.proofs.ListedLemmas.{mapped, members_length, rises_map}
use Rattle.tg_graph.proofs.RollLemmas.{contains_filter, filter_contains, untrue}
use Rattle.tg_collect.specs.Promise.Parts.{ListsHeld}
use Rattle.tg_collect.proofs.RunLemmas.{held_graph}
use Rattle.tg_collect.proofs.ShownLemmas.{same_key}
use Rattle.tg_collect.proofs.StoreLemmas.{edge_in}
use Rattle.tg_vault.specs.Inner.Rebase.{reopening}
use Rattle.tg_vault.specs.Promise.Contents.{Contents, graph_now, held_now}
use Rattle.tg_vault.specs.Promise.Course.{IsCoherent}
use Rattle.tg_vault.proofs.DecidedLemmas.{graph_is, held_is, of_graph}
use Rattle.tg_vault.proofs.EdgeLemmas.{label_seen}

-- order and difference in lists
filter_rises : (p : ℕ → Bool) (xs : List ℕ) → Rises (λ a b. a < b) xs → Rises (λ a b. a < b) (filter p xs)
filter_rises p [] r = tt
filter_rises p (x ∷ xs) r = by (p x) (λ y h. r.0 y (contains_filter p xs y h).0) (filter_rises p xs r.1) where
  by : (b : Bool) → ((y : ℕ) → Contains (filter p xs) y → x < y) → Rises (λ a b. a < b) (filter p xs) → Rises (λ a b. a < b) (cond b (x ∷ filter p xs) (filter p xs))
  by true first rest = (first, rest)
  by false first rest = rest

members_apart : (ms : List Member) → Rise ms → Distinct (map (λ (m : Member). m.serial) ms)
members_apart [] r = tt
members_apart (m ∷ ms) r = (
  λ h. let from = mapped (λ (n : Member). n.serial) ms m.serial h in
      let low = r.0 from.0 from.1 in
      let is : m.serial ≡ from.0.serial = from.2 in
      omega (arith, low, is),
  members_apart ms r.1,
)

-- principals as pairs
pairs_by : {X : Type 0} (f : Member → X) (ns : List (List ℕ × ℕ)) → map f (members_of ns) ≡ map (λ n. f (member_of n)) ns
pairs_by f [] = refl
pairs_by {X} f (n ∷ ns) = ap (λ (l : List X). f (member_of n) ∷ l) (pairs_by f ns)

pair_of : (ns : List (List ℕ × ℕ)) (m : Member) → Contains (members_of ns) m → Contains ns (m.name, m.serial)
pair_of [] m h = absurd h
pair_of (n ∷ ns) m (inl is) = inl (λ i. ((is i).name, (is i).serial))
pair_of (n ∷ ns) m (inr h) = inr (pair_of ns m h)

-- options that are something
some_vertex : (o : Option Vertex) → is_some o ≡ true → (e : Vertex) × (o ≡ Some e)
some_vertex None is = absurd (cc is)
some_vertex (Some e) is = (e, refl)

some_kind : (o : Option Vertex) (k : Kind) → option_map (λ (e : Vertex). e.kind) o ≡ Some k → (text : List ℕ) × (o ≡ Some (record { kind = k; text = text }))
some_kind None k is = absurd (cc is)
some_kind (Some e) k is = let same : e.kind ≡ k = cc is in (e.text, λ i. Some (record { kind = same i; text = e.text }))

-- those who have retired and are held
abbrev is_held : Contents → ℕ → Bool
is_held w x = map.contains_key (held_now w).vertices x

pub kept_retired : (w : Contents) (x : ℕ) → (has_retired (reopening w) x ≡ true) ↔ (IsVertex (reopening w) x × (has_retired (graph_now w) x ≡ true))
kept_retired w x = (λ t. let both = and_parts _ _ (sym kept ∙ t) in (both.1, both.0), λ h. kept ∙ and_from _ _ h.1 h.0) where
  kept : has_retired (reopening w) x ≡ (has_retired (graph_now w) x && is_held w x)
  kept = set.contains-retain (graph_now w).retired (λ y. is_held w y) x (λ y tie. ap (λ (z : ℕ). is_held w z) (sym (same_key x y (ap is_eq tie))))

-- the graph of what is held, and of the retired that are
pub reopening_graph : (w : Contents) → IsCoherent w → IsGraph (reopening w)
reopening_graph w sound =
    let roll = (held_is w sound.ties sound.store).roll in
    held_graph sound.store (graph_now w).next (graph_now w).names (reopening w).retired (λ x h. (graph_is w sound.ties sound.store).below_next x (of_graph w sound.ties sound.store x h)) (record {
      subjects = roll.subjects;
      active = λ m h. untrue _ (λ t. true≢false (sym ((kept_retired w m.serial).0 t).1 ∙ roll.active m h));
      rising = roll.rising;
      apart = roll.apart;
      few = roll.few;
      past = λ x t. roll.past x ((kept_retired w x).0 t).1;
    })

-- the lists of what a vault's store holds, with the principals and those of the retired that are listed
pub record AreHeld (w : Contents) (p : Parts) : Type 0 where
  pub lists : ListsHeld w.store p.vertices.items p.edges.items
  pub names : members_of p.names.items ≡ w.names
  pub retired : p.retired.items ≡ filter (λ x. has_retired (graph_now w) x) (map (λ (v : Listed). v.0) p.vertices.items)
  pub next : p.next ≡ (graph_now w).next

module _ (w : Contents) (sound : IsCoherent w) (p : Parts) (held : AreHeld w p) where
  abbrev next : ℕ
  next = (graph_now w).next

  is_vertex : (x : ℕ) → HasVertex p x → IsVertex (held_now w) x
  is_vertex x (e, within, is) = subst (IsVertex (held_now w)) is (ap is_some ((held.lists.vertices next e.0 e.1 e.2).0 within))

  has_vertex : (x : ℕ) → IsVertex (held_now w) x → HasVertex p x
  has_vertex x h = let e = some_vertex (vertex (held_now w) x) h in ((x, e.0.kind, e.0.text), (held.lists.vertices next x e.0.kind e.0.text).1 e.1, refl)

  called : members_of p.names.items ≡ (graph_now w).names
  called = held.names ∙ sound.ties.names

  gone_listed : (x : ℕ) → Contains p.retired.items x → IsVertex (held_now w) x × (has_retired (graph_now w) x ≡ true)
  gone_listed x h =
      let both = contains_filter (λ y. has_retired (graph_now w) y) (map (λ (v : Listed). v.0) p.vertices.items) x (subst (λ (xs : List ℕ). Contains xs x) held.retired h) in
      let from = mapped (λ (v : Listed). v.0) p.vertices.items x both.0 in
      (is_vertex x (from.0, from.1, sym from.2), both.1)

  listed_gone : (x : ℕ) → IsVertex (held_now w) x → has_retired (graph_now w) x ≡ true → Contains p.retired.items x
  listed_gone x h t =
      let e = has_vertex x h in
      let there : Contains (map (λ (v : Listed). v.0) p.vertices.items) x = subst (Contains (map (λ (v : Listed). v.0) p.vertices.items)) e.2 (contains_map (λ (v : Listed). v.0) p.vertices.items e.0 e.1) in
      subst (λ (xs : List ℕ). Contains xs x) (sym held.retired) (filter_contains (λ y. has_retired (graph_now w) y) (map (λ (v : Listed). v.0) p.vertices.items) x there t)

  pub held_lists : Lists p (reopening w)
  held_lists = record {
    vertices = λ x k text. held.lists.vertices next x k text;
    edges = λ x y l.
        subst (λ (m : Letters). Contains p.edges.items (x, l, y) ↔ ((l ≡ m) × (is_none m ≡ false))) (sym (label_seen w.store next next (graph_now w).names (reopening w).retired x y)) (held.lists.edges next x y l);
    names = λ m. (
      λ h. subst (λ (ms : List Member). Contains ms m) called (contains_map member_of p.names.items (m.name, m.serial) h),
      λ h. pair_of p.names.items m (subst (λ (ms : List Member). Contains ms m) (sym called) h),
    );
    retired = λ x. (λ h. (kept_retired w x).1 (gone_listed x h), λ t. let both = (kept_retired w x).0 t in listed_gone x both.0 both.1);
    next = held.next;
  }

  -- an edge joins two different vertices
  ends : (e : ListedEdge) → Contains p.edges.items e → HasVertex p e.0 × HasVertex p e.2 × (e.0 ≢ e.2) × (is_none e.1 ≡ false)
  ends e h =
      let at = (held.lists.edges next e.0 e.2 e.1).0 h in
      let there = edge_in w.store next e.0 e.2 at.1 in
      let t : Triple = record { from = e.0; right = there.0; to = e.2 } in
      (has_vertex e.0 (sound.store.from_held t there.1), has_vertex e.2 (sound.store.to_held t there.1), sound.store.distinct t there.1, ap is_none at.0 ∙ at.1)

  principal : (n : List ℕ × ℕ) → Contains p.names.items n → Contains (graph_now w).names (member_of n)
  principal n h = subst (λ (ms : List Member). Contains ms (member_of n)) called (contains_map member_of p.names.items n h)

  pub are_parts : AreParts p
  are_parts =
      let graph = reopening_graph w sound in
      record {
        vertices = held.lists.by_serial;
        below_next = λ x h. subst (λ n. x < n) (sym held.next) (graph.below_next x (is_vertex x h));
        edges = held.lists.by_pairs;
        ends = ends;
        names = subst Distinct (pairs_by (λ (m : Member). m.name) p.names.items) (subst (λ (ms : List Member). Distinct (map (λ (m : Member). m.name) ms)) (sym called) graph.roll.apart);
        serials = subst Distinct (pairs_by (λ (m : Member). m.serial) p.names.items) (subst (λ (ms : List Member). Distinct (map (λ (m : Member). m.serial) ms)) (sym called) (members_apart (graph_now w).names graph.roll.rising));
        few = let long = members_length p.names.items in let same = ap length called in let few : length (graph_now w).names ≤ MAX_PRINCIPALS = graph.roll.few in omega (arith, long, same, few);
        principals = λ n h. (
          (let some = some_kind (vertex (held_now w) n.1) kind.Subject (graph.roll.subjects (member_of n) (principal n h)) in (some.0, (held.lists.vertices next n.1 kind.Subject some.0).1 some.1)),
          λ gone. true≢false (sym ((kept_retired w n.1).1 (gone_listed n.1 gone)) ∙ graph.roll.active (member_of n) (principal n h)),
        );
        retired = subst (λ (xs : List ℕ). Rises (λ a b. a < b) xs) (sym held.retired) (filter_rises (λ y. has_retired (graph_now w) y) (map (λ (v : Listed). v.0) p.vertices.items) (rises_map (λ (v : Listed). v.0) (λ v w. v.0 < w.0) (λ a b. a < b) p.vertices.items (λ v w low. low) held.lists.by_serial));
        were = λ x h. has_vertex x (gone_listed x h).0;
      }
