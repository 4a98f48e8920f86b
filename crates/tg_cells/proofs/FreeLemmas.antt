-- The row of free cells: the next one to be used, and what becomes of the row when a cell is linked or freed.
use Rattle.std.proofs.Common.{◌≡◌, ◌≢◌, ℕ, ◌+◌, ◌-◌, ◌<◌, ◌≤◌, List, [], ◌∷◌, ◌++◌, length, inl, inr, sym, ◌∙◌, subst, ap, refl, set, get_or, cond, ltb, true, false, min, arith, length-set}
use Rattle.std.proofs.lemmas.Bool.{lt-ltb, le-ltb}
use Rattle.tg_lists.specs.Promise.Membership.{Contains, Distinct}
use Rattle.tg_lists.proofs.MembershipLemmas.{contains_left, contains_middle}
use Rattle.tg_index.specs.declared.buckets.Link.{Link}
use Rattle.tg_index.specs.Promise.Rows.{Rows, row, IsUnheld}
use Rattle.tg_index.specs.Inner.Links.{link_at, with_next, first_link, written, AreLinked}
use Rattle.tg_lists.proofs.NestedLemmas.{added, lost, get_or_kept}
use Rattle.tg_index.proofs.RowLemmas.{taken_unheld}
use Rattle.tg_index.proofs.LinksLemmas.{at_same, at_other, links_before, written_holds, written_other, led, led-length, joined-length, out}
use Rattle.tg_index.proofs.StepLemmas.{Located, locate}
use Rattle.tg_cells.specs.Inner.Chain.{Row}
use Rattle.tg_cells.specs.Inner.Inside.{IsFree}

-- A row over links that lead on as before.
row_kept : (end : ℕ) (ls ms : List Link) (head : ℕ) (ns : List ℕ) → length ls ≤ length ms → ((n : ℕ) → n < length ls → Contains ns n → (link_at ms n).next ≡ (link_at ls n).next) → Row end ls head ns → Row end ms head ns
row_kept end ls ms head [] more keeps row = row
row_kept end ls ms head (n ∷ ns) more keeps row =
    let within : n < length ls = row.1 in (
      row.0,
      omega arith,
      subst (λ (m : ℕ). Row end ms m ns) (sym (keeps n within (inl refl))) (row_kept end ls ms (link_at ls n).next ns more (λ m w h. keeps m w (inr h)) row.2),
    )

-- The free cell that is used next, the row of the others, which begins at `next`, and how many cells are used then.
pub record NextFree (ls : List Link) (v : Rows) (number next count : ℕ) : Type 0 where
  pub rest : List ℕ
  pub once : Distinct (number ∷ rest)
  pub unheld : (n : ℕ) → Contains (number ∷ rest) n → IsUnheld v.lists n
  pub row : Row v.size ls next rest
  pub fits : number ≤ length ls
  pub some : 1 ≤ count
  pub counted : count + cond (ltb number (length ls)) (length ls) (length ls + 1) ≡ length rest + 1 + v.size

module _ (hs : List ℕ) (ls : List Link) (v : Rows) (k : AreLinked hs ls v) (free count : ℕ) (f : IsFree v.size ls v.lists free count) where
  -- It is the row's first one or, if the row is empty, the first cell that was never used. If there is none, no cell is
  -- free.
  pub next_free : (number next : ℕ) → number ≡ min free (length ls) → number < v.size → next ≡ cond (ltb number (length ls)) (link_at ls number).next v.size → NextFree ls v number next count
  next_free number next at below on = by f.numbers f.once f.unheld f.row f.counted where
    by : (ns : List ℕ) → Distinct ns → ((n : ℕ) → Contains ns n → IsUnheld v.lists n) → Row v.size ls free ns → count + length ls ≡ length ns + v.size → NextFree ls v number next count
    by [] once unheld row counted =
        let used = k.used in
        let room = k.sound.room in
        let head : free ≡ v.size = row in
        let last : number ≡ length ls = omega arith in
        let test : ltb number (length ls) ≡ false = le-ltb number (length ls) (omega arith) in
        record {
          rest = [];
          once = (λ h. h, tt);
          unheld = λ n h. elim h [
            | inl is ↦ λ b held. absurd (let below = k.sound.used b n held in omega arith)
            | inr none ↦ absurd none
          ];
          row = rw test at on;
          fits = omega arith;
          some = omega (arith, counted);
          counted = rw test (omega (arith, counted));
        }
    by (n ∷ ns) once unheld row counted =
        let used = k.used in
        let room = k.sound.room in
        let head : free ≡ n = row.0 in
        let within : n < length ls = row.1 in
        let is : n ≡ number = omega arith in
        let test : ltb number (length ls) ≡ true = lt-ltb number (length ls) (omega arith) in
        let leads : next ≡ (link_at ls number).next = rw test at on in
        record {
          rest = ns;
          once = subst (λ (m : ℕ). Distinct (m ∷ ns)) is once;
          unheld = λ m h. unheld m (subst (λ (x : ℕ). Contains (x ∷ ns) m) (sym is) h);
          row = subst (λ (m : ℕ). Row v.size ls m ns) (sym leads) (subst (λ (m : ℕ). Row v.size ls (link_at ls m).next ns) is row.2);
          fits = omega arith;
          some = omega (arith, counted);
          counted = rw test (omega (arith, counted));
        }

  pub none_free : v.size ≤ min free (length ls) → count ≡ 0
  none_free all = by f.numbers f.row f.counted where
    by : (ns : List ℕ) → Row v.size ls free ns → count + length ls ≡ length ns + v.size → count ≡ 0
    by [] row counted = omega (arith, all, counted)
    by (n ∷ ns) row counted =
        let used = k.used in
        let room = k.sound.room in
        let head : free ≡ n = row.0 in
        let within : n < length ls = row.1 in
        absurd (omega arith)

  -- A cell is freed.
  pub free_take : (b n : ℕ) (p r : List ℕ) → row v.lists b ≡ p ++ n ∷ r → IsFree v.size (with_next (out ls n) n free) (set v.lists b (p ++ r)) n (count + 1)
  free_take b n p r at = record {
    numbers = n ∷ f.numbers;
    once = (λ h. f.unheld n h b held, f.once);
    unheld = λ m h. elim h [
      | inl is ↦ subst (λ (x : ℕ). IsUnheld (set v.lists b (p ++ r)) x) (sym is) (taken_unheld v b n p r l.own at k.sound)
      | inr old ↦ λ a g. f.unheld m old a (lost v.lists b n p r a m l.own at g)
    ];
    row = (
      refl,
      within,
      subst (λ (x : Link). Row v.size (with_next (out ls n) n free) x.next f.numbers) (sym now) (row_kept v.size ls (with_next (out ls n) n free) free f.numbers (omega (arith, size)) leads f.row),
    );
    counted = (let counted = f.counted in omega (arith, counted, size));
  } where
    l : Located hs ls v b n p r
    l = locate hs ls v k b n p r at

    held : Contains (row v.lists b) n
    held = subst (λ (x : List ℕ). Contains x n) (sym at) (contains_middle p r n)

    size : length (with_next (out ls n) n free) ≡ length ls
    size = length-set (out ls n) n _ ∙ joined-length ls (link_at ls n).previous (link_at ls n).next

    within : n < length (with_next (out ls n) n free)
    within = let was = l.within in omega (arith, was, size)

    now : link_at (with_next (out ls n) n free) n ≡ record (link_at (out ls n) n) { next = free }
    now = at_same (out ls n) n _ (omega (arith, within, length-set (out ls n) n (record (link_at (out ls n) n) { next = free })))

    leads : (m : ℕ) → m < length ls → Contains f.numbers m → (link_at (with_next (out ls n) n free) m).next ≡ (link_at ls m).next
    leads m w h =
        let other : m ≢ n = λ e. f.unheld m h b (subst (λ (x : ℕ). Contains (row v.lists b) x) (sym e) held) in
        let apart : m ≢ (link_at ls n).previous = elim (links_before v.size ls v.size (get_or hs b v.size) p n r l.here) [
          | inl end ↦ λ e. let fits = l.fits in omega arith
          | inr there ↦ λ e. f.unheld m h b (subst (λ (x : List ℕ). Contains x m) (sym at) (subst (λ (x : ℕ). Contains (p ++ n ∷ r) x) (sym e) (contains_left p (n ∷ r) (link_at ls n).previous there)))
        ] in
        ap (λ (x : Link). x.next) (at_other (out ls n) n m _ other)
        ∙ get_or_kept (λ (x : Link). x.next) (with_next ls (link_at ls n).previous (link_at ls n).next) (link_at ls n).next
        (record (link_at (with_next ls (link_at ls n).previous (link_at ls n).next) (link_at ls n).next) { previous = (link_at ls n).previous }) _ m refl
        ∙ ap (λ (x : Link). x.next) (at_other ls (link_at ls n).previous m _ apart)

-- A free cell is linked.
pub free_put : (ls : List Link) (v : Rows) (b n head next count : ℕ) → b < length v.lists → NextFree ls v n next count → IsFree v.size (led ls n head v.size) (set v.lists b (n ∷ row v.lists b)) next (count - 1)
free_put ls v b n head next count own x =
    let more = (written_holds ls n (first_link head v.size) x.fits).more in
    let grown : length (led ls n head v.size) ≡ length (written ls n (first_link head v.size)) = length-set (written ls n (first_link head v.size)) head _ in
    let some = x.some in
    let counted = x.counted in
    record {
      numbers = x.rest;
      once = x.once.1;
      unheld = λ m h a g. elim (added v.lists b n a m own g) [
        | inl new ↦ x.once.0 (subst (λ (y : ℕ). Contains x.rest y) new.1 h)
        | inr old ↦ x.unheld m (inr h) a old
      ];
      row = row_kept v.size ls (led ls n head v.size) next x.rest (omega arith)
          (λ m w h. get_or_kept (λ (l : Link). l.next) (written ls n (first_link head v.size)) head (record (link_at (written ls n (first_link head v.size)) head) { previous = n }) _ m refl
          ∙ ap (λ (l : Link). l.next) (written_other ls n (first_link head v.size) m _ w (λ e. x.once.0 (subst (λ (y : ℕ). Contains x.rest y) e h)))) x.row;
      counted = omega (arith, some, counted, led-length ls n head v.size x.fits);
    }
