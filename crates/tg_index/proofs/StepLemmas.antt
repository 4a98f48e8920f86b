-- What each call does to linked rows: the invariant holds of them, and the rows that they show are the ones promised.
use Rattle.std.proofs.Common.{◌≡◌, ◌≢◌, ℕ, ◌+◌, ◌<◌, ◌≤◌, List, [], ◌∷◌, ◌++◌, length, Some, None, inl, inr, sym, ◌∙◌, subst, ap, refl, set, get_or, map, cond, ltb, eqb, arith, length-set, replicate, get_or-set_same, get_or-set_other, Global, vec_capacity}
use Rattle.std.proofs.lemmas.List.{ext_get_or, get_or-map, get_or_default, get_or-replicate, length-replicate, length-map, with_items_is}
use Rattle.std.specs.Vec.{with_items, with_item}
use Rattle.std.specs.declared.vec.Vec.{Vec}
use Rattle.tg_lists.specs.Promise.Membership.{Contains, Distinct}
use Rattle.tg_lists.proofs.MembershipLemmas.{contains_left, contains_right, contains_middle, few}
use Rattle.tg_lists.proofs.NestedLemmas.{each_set, empty_at}
use Rattle.tg_index.specs.declared.buckets.Link.{Link}
use Rattle.tg_index.specs.declared.buckets.Buckets.TheInside.{Inside}
use Rattle.tg_index.specs.Promise.Rows.{Rows, row, first_of, IsUnheld}
use Rattle.tg_index.specs.Inner.Links.{link_at, with_previous, with_next, walk, Links, first_link, written, AreLinked, walked}
use Rattle.tg_index.specs.Inner.Inside.{view_of, IsInside}
use Rattle.tg_index.proofs.RowLemmas.{sound-put, sound-take, held_within}
use Rattle.tg_index.proofs.LinksLemmas.{at_other, links_same, walk_links, links_from, links_before, links_after, links_head, led, led-length, led_row, led_other, joined, joined-length, joined_other, out, heads_out, head_after, links_out, head_moves, head_own, head_other, heads_size}

-- What is shown is what the walks return.
pub walked_is : (hs : List ℕ) (ls : List Link) (v : Rows) → AreLinked hs ls v → walked hs ls v.size ≡ v
walked_is hs ls v k =
    let all : map (λ (h : ℕ). walk v.size ls (length ls) h) hs ≡ v.lists =
    ext_get_or [] (map (λ (h : ℕ). walk v.size ls (length ls) h) hs) v.lists (size ∙ k.heads) (λ b w. one b (omega (arith, w, size))) in
    ap (λ (l : List (List ℕ)). record { lists = l; used = length ls; size = v.size }) all
    ∙ ap (λ (n : ℕ). record { lists = v.lists; used = n; size = v.size }) k.used where
      size : length (map (λ (h : ℕ). walk v.size ls (length ls) h) hs) ≡ length hs
      size = length-map hs (λ (h : ℕ). walk v.size ls (length ls) h)

      one : (b : ℕ) → b < length hs → get_or (map (λ (h : ℕ). walk v.size ls (length ls) h) hs) b [] ≡ row v.lists b
      one b w =
          let same = k.heads in
          let used = k.used in
          let room = k.sound.room in
          let fits = few v.used (row v.lists b) (k.sound.once b) (k.sound.used b) in
          get_or-map (λ (h : ℕ). walk v.size ls (length ls) h) hs b v.size [] w
          ∙ walk_links v.size ls (length ls) v.size (get_or hs b v.size) (row v.lists b) (omega arith) (k.rows b (omega arith)) (omega arith)

-- Heads, links and lists that are equal.
pub linked_as : (hs gs : List ℕ) (ls ms : List Link) (v : Rows) (lists : List (List ℕ)) → hs ≡ gs → ls ≡ ms → v.lists ≡ lists → AreLinked hs ls v → AreLinked gs ms (record { lists = lists; used = length ms; size = v.size })
linked_as hs gs ls ms v lists eh el ev k =
    subst (λ (x : List (List ℕ)). AreLinked gs ms (record { lists = x; used = length ms; size = v.size })) ev
    (subst (λ (x : List Link). AreLinked gs x (record { lists = v.lists; used = length x; size = v.size })) el
    (subst (λ (x : List ℕ). AreLinked x ls (record { lists = v.lists; used = length ls; size = v.size })) eh
    (subst (λ (x : ℕ). AreLinked hs ls (record { lists = v.lists; used = x; size = v.size })) (sym k.used) k)))

-- Empty rows.
pub linked_new : (n size : ℕ) → AreLinked (replicate n size) [] (record { lists = replicate n []; used = 0; size = size })
linked_new n size =
    let lists : length (replicate {A = List ℕ} n []) ≡ n = length-replicate n [] in
    record {
      used = refl;
      heads = length-replicate n size ∙ sym lists;
      rows = λ b w. subst (λ (l : List ℕ). Links size [] size (get_or (replicate n size) b size) l) (sym (empty_at {X = ℕ} n b)) (get_or-replicate n b size size (omega arith));
      sound = record {
        once = λ b. subst (λ (l : List ℕ). Distinct l) (sym (empty_at {X = ℕ} n b)) tt;
        one_row = λ a b m h g. absurd (subst (λ (l : List ℕ). Contains l m) (empty_at {X = ℕ} n a) h);
        used = λ b m h. absurd (subst (λ (l : List ℕ). Contains l m) (empty_at {X = ℕ} n b) h);
        room = omega arith;
      };
    }

-- A number in a row, up to its links.
pub record Located (hs : List ℕ) (ls : List Link) (v : Rows) (b n : ℕ) (p r : List ℕ) : Type 0 where
  pub own : b < length v.lists
  pub within : n < length ls
  pub fits : length ls ≤ v.size
  pub here : Links v.size ls v.size (get_or hs b v.size) (p ++ n ∷ r)
  pub rest : Links v.size ls n (link_at ls n).next r

module _ (hs : List ℕ) (ls : List Link) (v : Rows) (k : AreLinked hs ls v) where
  pub locate : (b n : ℕ) (p r : List ℕ) → row v.lists b ≡ p ++ n ∷ r → Located hs ls v b n p r
  locate b n p r at =
      let own : b < length v.lists = held_within v.lists b n (subst (λ (l : List ℕ). Contains l n) (sym at) (contains_middle p r n)) in
      let here : Links v.size ls v.size (get_or hs b v.size) (p ++ n ∷ r) = subst (λ (l : List ℕ). Links v.size ls v.size (get_or hs b v.size) l) at (k.rows b own) in
      let from = links_from v.size ls v.size (get_or hs b v.size) p n r here in
      let used = k.used in
      let room = k.sound.room in
      record { own = own; within = from.0; fits = omega arith; here = here; rest = from.1 }

  -- The first number of a row, and what follows a number in its row.
  pub first_is : (b head : ℕ) → b < length v.lists → head ≡ get_or hs b head → cond (ltb head (length ls)) (Some head) None ≡ first_of (row v.lists b)
  first_is b head own read =
      let heads = k.heads in
      let used = k.used in
      let room = k.sound.room in
      let same : head ≡ get_or hs b v.size = read ∙ get_or_default hs b head v.size (omega arith) in
      links_head v.size ls v.size head (row v.lists b) (omega arith) (subst (λ (h : ℕ). Links v.size ls v.size h (row v.lists b)) (sym same) (k.rows b own))

  pub next_is : (b n : ℕ) (p r : List ℕ) → row v.lists b ≡ p ++ n ∷ r → cond (ltb (link_at ls n).next (length ls)) (Some (link_at ls n).next) None ≡ first_of r
  next_is b n p r at = let l = locate b n p r at in links_head v.size ls n (link_at ls n).next r l.fits l.rest

  -- The link of a number in no row leads anywhere.
  pub linked_loose : (n next : ℕ) → IsUnheld v.lists n → AreLinked hs (with_next ls n next) v
  linked_loose n next unheld =
      let size : length (with_next ls n next) ≡ length ls = length-set ls n _ in
      record {
        used = size ∙ k.used;
        heads = k.heads;
        rows = λ b w. links_same v.size ls (with_next ls n next) v.size (get_or hs b v.size) (row v.lists b) (omega arith)
            (λ m u h. at_other ls n m _ (λ is. unheld b (subst (λ (x : ℕ). Contains (row v.lists b) x) is h))) (k.rows b w);
        sound = k.sound;
      }

  -- A number is put in front of a row.
  pub linked_put : (b n head : ℕ) → b < length v.lists → IsUnheld v.lists n → n ≤ v.used → n < v.size → head ≡ get_or hs b head
      → AreLinked (set hs b n) (led ls n head v.size) (record v { lists = set v.lists b (n ∷ row v.lists b); used = cond (ltb n v.used) v.used (v.used + 1) })
  linked_put b n head own unheld fits below read =
      let heads = k.heads in
      let used = k.used in
      let most = k.sound.room in
      let lists : length (set v.lists b (n ∷ row v.lists b)) ≡ length v.lists = length-set v.lists b _ in
      let same : head ≡ get_or hs b v.size = read ∙ get_or_default hs b head v.size (omega arith) in
      let old : Links v.size ls v.size head (row v.lists b) = subst (λ (h : ℕ). Links v.size ls v.size h (row v.lists b)) (sym same) (k.rows b own) in
      let now : Links v.size (led ls n head v.size) v.size (get_or (set hs b n) b v.size) (n ∷ row v.lists b) =
      subst (λ (h : ℕ). Links v.size (led ls n head v.size) v.size h (n ∷ row v.lists b)) (sym (get_or-set_same hs b n v.size (omega arith)))
      (led_row v.size ls n head (row v.lists b) (omega arith) (omega arith) below (k.sound.once b) (unheld b) old) in
      let not_n = λ (a m : ℕ) (u : m < length ls) (h : Contains (row v.lists a) m). let other : m ≢ n = λ e. unheld a (subst (λ (x : ℕ). Contains (row v.lists a) x) e h) in other in
      let not_head = λ (a : ℕ) (o : a ≢ b) (m : ℕ) (u : m < length ls) (h : Contains (row v.lists a) m).
      let other : m ≢ head = elim (links_after v.size ls v.size head (row v.lists b) old) [
        | inl end ↦ λ e. omega arith
        | inr there ↦ λ e. o (k.sound.one_row a b head (subst (λ (x : ℕ). Contains (row v.lists a) x) e h) there)
      ] in other in
      record {
        used = led-length ls n head v.size (omega arith) ∙ ap (λ (m : ℕ). cond (ltb n m) m (m + 1)) used;
        heads = length-set hs b n ∙ heads ∙ sym lists;
        rows = each_set (λ (a h : ℕ) (l : List ℕ). Links v.size (led ls n head v.size) v.size h l) v.size hs (set hs b n) v.lists b (n ∷ row v.lists b) own now
            (λ a o. get_or-set_other hs b a n v.size o)
            (λ a h o. led_other v.size ls n head v.size (get_or hs a v.size) (row v.lists a) (omega arith) (not_n a) (not_head a o) (k.rows a h));
        sound = sound-put v b n own unheld fits below k.sound;
      }

  -- A number leaves its row: its neighbours are joined.
  pub linked_take : (b n : ℕ) (p r : List ℕ) → row v.lists b ≡ p ++ n ∷ r → AreLinked (heads_out hs ls b n v.size) (out ls n) (record v { lists = set v.lists b (p ++ r) })
  linked_take b n p r at =
      let l = locate b n p r at in
      let heads = k.heads in
      let own = l.own in
      let fits = l.fits in
      let lists : length (set v.lists b (p ++ r)) ≡ length v.lists = length-set v.lists b _ in
      let once : Distinct (p ++ n ∷ r) = subst (λ (m : List ℕ). Distinct m) at (k.sound.once b) in
      let mine = λ (m : ℕ) (h : Contains (p ++ n ∷ r) m). let held : Contains (row v.lists b) m = subst (λ (x : List ℕ). Contains x m) (sym at) h in held in
      let none : Contains r v.size → ⊥ = λ h. (let used = k.sound.used b v.size (mine v.size (contains_right p (n ∷ r) v.size (inr h))) in let most = k.sound.room in omega arith) in
      let head : get_or (heads_out hs ls b n v.size) b v.size ≡ head_after p (get_or hs b v.size) (link_at ls n).next =
      head_own hs b (link_at ls n).previous (link_at ls n).next v.size (omega arith) ∙ head_moves v.size ls (get_or hs b v.size) p n r fits l.here in
      let now : Links v.size (out ls n) v.size (get_or (heads_out hs ls b n v.size) b v.size) (p ++ r) =
      subst (λ (h : ℕ). Links v.size (out ls n) v.size h (p ++ r)) (sym head) (links_out v.size ls v.size (get_or hs b v.size) p n r fits once none l.here) in
      let not_previous = λ (a : ℕ) (o : a ≢ b) (m : ℕ) (u : m < length ls) (h : Contains (row v.lists a) m).
      let other : m ≢ (link_at ls n).previous = elim (links_before v.size ls v.size (get_or hs b v.size) p n r l.here) [
        | inl end ↦ λ e. omega arith
        | inr there ↦ λ e. o (k.sound.one_row a b m h (mine m (subst (λ (x : ℕ). Contains (p ++ n ∷ r) x) (sym e) (contains_left p (n ∷ r) (link_at ls n).previous there))))
      ] in other in
      let not_next = λ (a : ℕ) (o : a ≢ b) (m : ℕ) (u : m < length ls) (h : Contains (row v.lists a) m).
      let other : m ≢ (link_at ls n).next = elim (links_after v.size ls n (link_at ls n).next r l.rest) [
        | inl end ↦ λ e. omega arith
        | inr there ↦ λ e. o (k.sound.one_row a b m h (mine m (subst (λ (x : ℕ). Contains (p ++ n ∷ r) x) (sym e) (contains_right p (n ∷ r) (link_at ls n).next (inr there)))))
      ] in other in
      record {
        used = joined-length ls (link_at ls n).previous (link_at ls n).next ∙ k.used;
        heads = heads_size hs b (link_at ls n).previous (link_at ls n).next v.size ∙ heads ∙ sym lists;
        rows = each_set (λ (a h : ℕ) (x : List ℕ). Links v.size (out ls n) v.size h x) v.size hs (heads_out hs ls b n v.size) v.lists b (p ++ r) own now
            (λ a o. head_other hs b (link_at ls n).previous (link_at ls n).next v.size a o)
            (λ a h o. joined_other v.size ls (link_at ls n).previous (link_at ls n).next v.size (get_or hs a v.size) (row v.lists a) (not_previous a o) (not_next a o) (k.rows a h));
        sound = sound-take v b n p r own at k.sound;
      }

-- The fields that a call leaves: what always holds of them, and what they show.
pub record Leaves (s : Inside) (v : Rows) : Type 0 where
  pub kept : IsInside s
  pub shows : view_of s ≡ v

pub leaves : (s : Inside) (hs : List ℕ) (ls : List Link) (v : Rows) → s.size ≡ v.size → s.heads.items ≡ hs → s.links.items ≡ ls → AreLinked hs ls v → s.size ≤ vec_capacity s.links → Leaves s v
leaves s hs ls v size eh el k room =
    let now : AreLinked s.heads.items s.links.items v = subst (λ (x : List ℕ). AreLinked x s.links.items v) (sym eh) (subst (λ (x : List Link). AreLinked hs x v) (sym el) k) in
    let is : view_of s ≡ v = ap (λ (n : ℕ). walked s.heads.items s.links.items n) size ∙ walked_is s.heads.items s.links.items v now in
    record { kept = record { shown = subst (λ (u : Rows). AreLinked s.heads.items s.links.items u) (sym is) now; room = room }; shows = is }

pub leaves-new : (s : Inside) (n : ℕ) → s.heads.items ≡ replicate n s.size → s.links.items ≡ [] → s.size ≤ vec_capacity s.links → Leaves s (record { lists = replicate n []; used = 0; size = s.size })
leaves-new s n heads none room = leaves s (replicate n s.size) [] (record { lists = replicate n []; used = 0; size = s.size }) refl heads none (linked_new n s.size) room

-- What the fields show is what callers see.
pub seen : (s : Inside) (v : Rows) → view_of s ≡ v → IsInside s → AreLinked s.heads.items s.links.items v
seen s v is k = subst (λ (u : Rows). AreLinked s.heads.items s.links.items u) is k.shown

-- A number in a row was used.
pub held_used : (s : Inside) (v : Rows) (b n : ℕ) → view_of s ≡ v → IsInside s → Contains (row v.lists b) n → n < length s.links.items
held_used s v b n is inside h =
    let k = seen s v is inside in
    let used = k.used in
    let below = k.sound.used b n h in
    omega arith

-- The same from the steps of the code, one after another.
pub read_next : (s : Inside) (v : Rows) (b n : ℕ) (x : Link) (p r : List ℕ) → view_of s ≡ v → IsInside s → x ≡ get_or s.links.items n x → row v.lists b ≡ p ++ n ∷ r → cond (ltb x.next (length s.links.items)) (Some x.next) None ≡ first_of r
read_next s v b n x p r is inside read at =
    let k = seen s v is inside in
    let l = locate s.heads.items s.links.items v k b n p r at in
    let same : x ≡ link_at s.links.items n = read ∙ get_or_default s.links.items n x _ l.within in
    ap (λ (y : Link). cond (ltb y.next (length s.links.items)) (Some y.next) None) same ∙ next_is s.heads.items s.links.items v k b n p r at

pub puts : (s : Inside) (v : Rows) (w : Vec Link Global) (xs : List Link) (b n head : ℕ) → view_of s ≡ v → IsInside s → b < length v.lists → IsUnheld v.lists n → n ≤ v.used → n < v.size → head ≡ get_or s.heads.items b head → s.size ≤ vec_capacity w
    → w.items ≡ written s.links.items n (first_link head s.size) → xs ≡ with_previous w.items head n
    → Leaves (record { heads = with_item s.heads b n; links = with_items w xs; size = s.size }) (record v { lists = set v.lists b (n ∷ row v.lists b); used = cond (ltb n v.used) v.used (v.used + 1) })
puts s v w xs b n head is inside own unheld fits below read room ew ex =
    let size : s.size ≡ v.size = ap (λ (u : Rows). u.size) is in
    let count : length xs ≡ length w.items = ap length ex ∙ length-set w.items head _ in
    leaves (record { heads = with_item s.heads b n; links = with_items w xs; size = s.size }) (set s.heads.items b n) (led s.links.items n head v.size) (record v { lists = set v.lists b (n ∷ row v.lists b); used = cond (ltb n v.used) v.used (v.used + 1) }) size refl
    (with_items_is w xs (omega arith) ∙ ex ∙ ap (λ (l : List Link). with_previous l head n) ew ∙ ap (λ (m : ℕ). led s.links.items n head m) size)
    (linked_put s.heads.items s.links.items v (seen s v is inside) b n head own unheld fits below read) room

pub takes : (s : Inside) (v : Rows) (xs ys : List Link) (gs : List ℕ) (b n : ℕ) (p r : List ℕ) (before after : Link) → view_of s ≡ v → IsInside s → row v.lists b ≡ p ++ n ∷ r → before ≡ get_or s.links.items n before → after ≡ get_or s.links.items n after
    → gs ≡ cond (eqb before.previous s.size) (set s.heads.items b after.next) s.heads.items → xs ≡ with_next s.links.items before.previous after.next → ys ≡ with_previous (with_items s.links xs).items after.next before.previous
    → Leaves (record { heads = with_items s.heads gs; links = with_items (with_items s.links xs) ys; size = s.size }) (record v { lists = set v.lists b (p ++ r) })
takes s v xs ys gs b n p r before after is inside at read read' eg ex ey =
    let size : s.size ≡ v.size = ap (λ (u : Rows). u.size) is in
    let k = seen s v is inside in
    let l = locate s.heads.items s.links.items v k b n p r at in
    let a : before ≡ link_at s.links.items n = read ∙ get_or_default s.links.items n before _ l.within in
    let c : after ≡ link_at s.links.items n = read' ∙ get_or_default s.links.items n after _ l.within in
    let one : length xs ≡ length s.links.items = ap length ex ∙ length-set s.links.items before.previous _ in
    let first : (with_items s.links xs).items ≡ xs = with_items_is s.links xs (omega arith) in
    let kept = ap length first in
    let two : length ys ≡ length (with_items s.links xs).items = ap length ey ∙ length-set (with_items s.links xs).items after.next _ in
    let heads : length gs ≡ length s.heads.items = ap length eg ∙ heads_size s.heads.items b before.previous after.next s.size in
    leaves (record { heads = with_items s.heads gs; links = with_items (with_items s.links xs) ys; size = s.size }) (heads_out s.heads.items s.links.items b n v.size) (out s.links.items n) (record v { lists = set v.lists b (p ++ r) }) size
    (with_items_is s.heads gs (omega arith) ∙ eg ∙ ap (λ (x : Link). cond (eqb x.previous s.size) (set s.heads.items b after.next) s.heads.items) a
    ∙ ap (λ (x : Link). cond (eqb (link_at s.links.items n).previous s.size) (set s.heads.items b x.next) s.heads.items) c ∙ ap (λ (m : ℕ). heads_out s.heads.items s.links.items b n m) size)
    (with_items_is (with_items s.links xs) ys (omega arith) ∙ ey ∙ ap (λ (x : List Link). with_previous x after.next before.previous) (first ∙ ex)
    ∙ ap (λ (x : Link). joined s.links.items x.previous after.next) a ∙ ap (λ (x : Link). joined s.links.items (link_at s.links.items n).previous x.next) c)
    (linked_take s.heads.items s.links.items v k b n p r at) inside.room
