-- Who is a principal after each command, and whom a name finds.
use Rattle.std.proofs.Common.{◌≡◌, ◌≢◌, ℕ, ◌∷◌, [], List, Bool, true, false, cond, not, map, refl, sym, ap, subst, ◌∙◌, ◌==◌, inl, inr, Some, None}
use Rattle.std.specs.Prelude.{Option}
use Rattle.std.specs.Cmp.{nat_cmp_total, unsigned_tied}
use Rattle.std.specs.FinSet as set
use Rattle.std.proofs.lemmas.Bool.{eqb-true, eq-eqb, not-true, or_cases, or_left, or_right}
use Rattle.tg_lists.specs.Promise.Membership.{Contains, Distinct}
use Rattle.tg_lists.proofs.MembershipLemmas.{contains_append, contains_left, contains_map, contains_right}
use Rattle.tg_rights.specs.Promise.Command.{rule_of}
use Rattle.tg_rights.specs.declared.command.Command.{Command}
use Rattle.tg_rights.specs.declared.command.Command.TheVariants as command
use Rattle.tg_rights.specs.declared.command.Rule.TheVariants as rule
use Rattle.tg_graph.specs.declared.member.Member.{Member}
use Rattle.tg_graph.specs.declared.vertex.Vertex.{Vertex}
use Rattle.tg_graph.specs.Promise.Laws.{ComeAndGo}
use Rattle.tg_graph.specs.Promise.Protection.{same_name, serial_of, Protection, IsGraph, vertex}
use Rattle.tg_graph.specs.Promise.Rules.{after, with_text}
use Rattle.tg_graph.proofs.PartsStayLemmas.{with_text-retired}
use Rattle.tg_graph.proofs.RollLemmas.{contains_filter, filter_contains, is-same_name, same_name-is, untrue}

finds : (ms : List Member) (name : List ℕ) (v : ℕ) → serial_of ms name ≡ Some v → Contains ms (record { name = name; serial = v })
finds [] name v e = absurd (cc e)
finds (m ∷ ms) name v e = by (finds ms name v) (same_name m.name name) refl e where
  by : (serial_of ms name ≡ Some v → Contains ms (record { name = name; serial = v })) → (b : Bool) → same_name m.name name ≡ b →
      cond b (Some m.serial) (serial_of ms name) ≡ Some v → Contains (m ∷ ms) (record { name = name; serial = v })
  by rest true same e = let is : m.serial ≡ v = cc e in inl (λ i. record { name = sym (same_name-is m.name name same) i; serial = sym is i })
  by rest false other e = inr (rest e)

is_found : (ms : List Member) (name : List ℕ) (v : ℕ) → Distinct (map (λ m. m.name) ms) → Contains ms (record { name = name; serial = v }) → serial_of ms name ≡ Some v
is_found [] name v d h = absurd h
is_found (m ∷ ms) name v d (inl is) =
    ap (λ b. cond b (Some m.serial) (serial_of ms name)) (is-same_name m.name name (ap (λ (m : Member). m.name) (sym is))) ∙ ap (λ (m : Member). Some m.serial) (sym is)
is_found (m ∷ ms) name v d (inr h) =
    ap (λ b. cond b (Some m.serial) (serial_of ms name))
    (untrue (same_name m.name name) (λ e. d.0 (subst (Contains (map (λ m. m.name) ms)) (sym (same_name-is m.name name e)) (contains_map (λ (m : Member). m.name) ms (record { name = name; serial = v }) h))))
    ∙ is_found ms name v d.1 h

with_text-names : (G : Protection) (y : ℕ) (text : List ℕ) (o : Option Vertex) → (with_text G y text o).names ≡ G.names
with_text-names G y text None = refl
with_text-names G y text (Some e) = refl

names_stay : (G : Protection) (x : ℕ) (c : Command) → rule_of c ≢ rule.Enrol → rule_of c ≢ rule.Retire → (after G x c).names ≡ G.names
names_stay G x (command.Write over text) no_enrol no_retire = with_text-names G over text (vertex G over)
names_stay G x (command.Enrol name α) no_enrol no_retire = absurd (no_enrol refl)
names_stay G x command.Retire no_enrol no_retire = absurd (no_retire refl)
names_stay G x _ no_enrol no_retire = refl

retired_stay : (G : Protection) (x : ℕ) (c : Command) → rule_of c ≢ rule.Retire → (after G x c).retired ≡ G.retired
retired_stay G x (command.Write over text) no_retire = with_text-retired G over text (vertex G over)
retired_stay G x command.Retire no_retire = absurd (no_retire refl)
retired_stay G x _ no_retire = refl

pub come_and_go : (G : Protection) (x : ℕ) → IsGraph G → ComeAndGo G x
come_and_go G x g = record {
  found = λ name v. (finds G.names name v, is_found G.names name v g.roll.apart);
  enrolled = λ name α m. let new : Member = record { name = name; serial = G.next } in (
    λ h. elim (contains_append G.names (new ∷ []) m h) [ inl old ↦ inl old | inr last ↦ elim last [ inl is ↦ inr is | inr never ↦ absurd never ] ],
    λ h. elim h [ inl old ↦ contains_left G.names (new ∷ []) m old | inr is ↦ contains_right G.names (new ∷ []) m (inl is) ],
  );
  left = λ m. (
    λ h. let kept = contains_filter (λ (m : Member). not (m.serial == x)) G.names m h in (kept.0, λ is. absurd (cc (not-true _ kept.1, eq-eqb m.serial x is))),
    λ h. filter_contains (λ (m : Member). not (m.serial == x)) G.names m h.0 (ap not (untrue (m.serial == x) (λ e. h.1 (eqb-true m.serial x e)))),
  );
  retired = λ v. (
    λ h. elim (or_cases _ _ (sym (set.contains-insert nat_cmp_total G.retired x v) ∙ h)) [ inl is ↦ inr (eqb-true v x (sym (unsigned_tied v x) ∙ is)) | inr old ↦ inl old ],
    λ h. set.contains-insert nat_cmp_total G.retired x v ∙ elim h [ inl old ↦ or_right _ _ old | inr is ↦ or_left _ _ (unsigned_tied v x ∙ eq-eqb v x is) ],
  );
  names = names_stay G x;
  others = retired_stay G x;
}
