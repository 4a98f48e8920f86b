-- A history with one more entry.
use Rattle.std.proofs.Common.{◌≡◌, ◌⊎◌, ℕ, List, [], ◌∷◌, ◌++◌, append-nil, append_assoc, Bool, true, false, not, cond, ◌==◌, Some, None, inl, inr, refl, sym, ap, subst, ◌∙◌}
use Rattle.std.specs.Prelude.{Option}
use Rattle.std.specs.Cmp.{nat_cmp_total, unsigned_tied}
use Rattle.std.specs.FinSet as set
use Rattle.std.proofs.lemmas.Bool.{eq-eqb, eqb-true, or_cases, or_left, or_right}
use Rattle.tg_lists.proofs.MembershipLemmas.{contains_append, contains_left, contains_middle}
use Rattle.tg_rights.specs.declared.command.Command.{Command}
use Rattle.tg_rights.specs.declared.command.Command.TheVariants as command
use Rattle.tg_rights.specs.declared.outcome.Outcome.{Outcome}
use Rattle.tg_rights.specs.declared.outcome.Outcome.TheVariants as outcome
use Rattle.tg_graph.specs.declared.member.Member.{Member}
use Rattle.tg_graph.specs.declared.vertex.Vertex.{Vertex}
use Rattle.tg_graph.specs.Promise.Protection.{has_serial, without_member, Protection, IsGraph, IsSubject, has_retired, is_active, vertex}
use Rattle.tg_graph.specs.Promise.Terms as effect
use Rattle.tg_graph.specs.Promise.Terms.{Does, terms}
use Rattle.tg_graph.specs.Promise.Rules.{done, next_graph, with_text}
use Rattle.tg_graph.proofs.CommandsKeepGraphsLemmas.{graph_stays, subject_stays}
use Rattle.tg_graph.proofs.ProtectionLemmas.{entitled}
use Rattle.tg_graph.proofs.RollLemmas.{member_finds, member_found}
use Rattle.tg_vault.specs.declared.entry.Entry.{Entry}
use Rattle.tg_graph.specs.Promise.Fullness.{Limits, Permitted}
use Rattle.tg_vault.specs.Promise.History.{Legal, MayAsk, WasAssumed, WasPrincipal, WasRetired, EntryStep, EntryRun, graph_of}
use Rattle.tg_vault.proofs.RetiredLemmas.{retired_leaves}

pub graph_of_more : (G : Protection) (es : List Entry) (e : Entry) → graph_of G (es ++ e ∷ []) ≡ next_graph (graph_of G es) e.actor e.command e.outcome
graph_of_more G [] e = refl
graph_of_more G (x ∷ es) e = graph_of_more (next_graph G x.actor x.command x.outcome) es e

pub along_more : (limits : Limits) (earlier : List Entry) (G : Protection) (es : List Entry) (H : Protection) (e : Entry) (K : Protection) → EntryRun limits earlier G es H → EntryStep limits (earlier ++ es) H e K →
    EntryRun limits earlier G (es ++ e ∷ []) K
along_more limits earlier G [] H e K same turns =
    (K, subst (λ (p : List Entry × Protection). EntryStep limits p.0 p.1 e K) (λ i. (append-nil earlier i, same i)) turns, refl)
along_more limits earlier G (x ∷ es) H e K along turns =
    let here = subst (λ (l : List Entry). EntryStep limits l H e K) (sym (append_assoc earlier (x ∷ []) es)) turns in
    (along.0, along.1, along_more limits (earlier ++ x ∷ []) along.0 es H e K along.2 here)

pub active_subject : (G : Protection) (x : ℕ) → IsGraph G → is_active G x ≡ true → IsSubject G x
active_subject G x graph active = let m = member_found G.names x active in subst (IsSubject G) m.2 (graph.roll.subjects m.0 m.1)

-- what legal entries leave: a graph, in which whoever retired has, and whoever was assumed is a subject
pub record IsLawful (earlier : List Entry) (G : Protection) : Type 0 where
  pub graph : IsGraph G
  pub retired : (x : ℕ) → WasRetired earlier x → has_retired G x ≡ true
  pub agents : (seat x : ℕ) → WasAssumed earlier seat x → IsSubject G x

pub asks_subject : (earlier : List Entry) (G : Protection) (seat x : ℕ) → IsLawful earlier G → MayAsk G earlier seat x → IsSubject G x ⊎ (has_retired G x ≡ true)
asks_subject earlier G seat x l (inl active) = inl (active_subject G x l.graph active)
asks_subject earlier G seat x l (inr (inl gone)) = inr (l.retired x gone)
asks_subject earlier G seat x l (inr (inr was)) = inl (l.agents seat x was)

module _ (limits : Limits) (earlier : List Entry) (G : Protection) (seat x : ℕ) (c : Command) (l : IsLawful earlier G) where
  turn_graph : (o : Outcome) → MayAsk G earlier seat x → Permitted limits G x c o → IsGraph (next_graph G x c o)
  turn_graph outcome.Allowed asks permitted = elim (asks_subject earlier G seat x l asks) [
    | inl subject ↦ graph_stays G x c l.graph subject permitted.0
    | inr gone ↦ subst (λ k. IsGraph (next_graph G x k outcome.Allowed)) (sym (retired_leaves G x c gone permitted.0)) l.graph
  ]
  turn_graph _ asks permitted = l.graph

  turn_subject : (o : Outcome) (y : ℕ) → IsSubject G y → IsSubject (next_graph G x c o) y
  turn_subject outcome.Allowed y subject = subject_stays G x c l.graph y subject
  turn_subject _ y subject = subject

  -- whom a seat assumes is a subject
  turn_assumed : (o : Outcome) (y : ℕ) → c ≡ command.Assume y → o ≡ outcome.Allowed → Permitted limits G x c o → IsSubject G y
  turn_assumed o y is allowed permitted =
      let may = subst (λ (p : Command × Outcome). Permitted limits G x p.0 p.1) (λ i. (is i, allowed i)) permitted in
      (entitled G (λ _. Unit {0}) (λ v z k e. tt) x tt (command.Assume y) may.0).1

-- whoever has retired stays so, and whoever retires has retired then
done_gone : (G : Protection) (x : ℕ) (d : Does) (y : ℕ) → has_retired G y ≡ true → has_retired (done G x d) y ≡ true
done_gone G x (effect.Rewrites over text) y gone = by (vertex G over) where
  by : (o : Option Vertex) → has_retired (with_text G over text o) y ≡ true
  by None = gone
  by (Some e) = gone
done_gone G x effect.Retires y gone = set.contains-insert nat_cmp_total G.retired x y ∙ or_right _ _ gone
done_gone G x _ y gone = gone

gone_stays : (G : Protection) (x : ℕ) (c : Command) (o : Outcome) (y : ℕ) → has_retired G y ≡ true → has_retired (next_graph G x c o) y ≡ true
gone_stays G x c outcome.Allowed y gone = done_gone G x (terms x c).does y gone
gone_stays G x c _ y gone = gone

goes : (G : Protection) (x y : ℕ) → x ≡ y → has_retired (next_graph G x command.Retire outcome.Allowed) y ≡ true
goes G x y same = set.contains-insert nat_cmp_total G.retired x y ∙ or_left _ _ (unsigned_tied y x ∙ eq-eqb y x (sym same))

pub turn_keeps : (limits : Limits) (earlier : List Entry) (G : Protection) (e : Entry) (H : Protection) → IsLawful earlier G → EntryStep limits earlier G e H → IsLawful (earlier ++ e ∷ []) H
turn_keeps limits earlier G e H l (asks, permitted, left) = subst (IsLawful (earlier ++ e ∷ [])) (sym left) (record {
  graph = turn_graph limits earlier G e.seat e.actor e.command l e.outcome asks permitted;
  retired = gone;
  agents = λ seat x was. turn_subject limits earlier G e.seat e.actor e.command l e.outcome x (subject seat x was);
}) where
  gone : (x : ℕ) → WasRetired (earlier ++ e ∷ []) x → has_retired (next_graph G e.actor e.command e.outcome) x ≡ true
  gone x (d, within, by_x, retires, allowed) = elim (contains_append earlier (e ∷ []) d within) [
    | inl before ↦ gone_stays G e.actor e.command e.outcome x (l.retired x (d, before, by_x, retires, allowed))
    | inr new ↦ elim new [
      | inl same ↦ subst (λ (p : Command × Outcome). has_retired (next_graph G e.actor p.0 p.1) x ≡ true)
          (λ i. (sym (ap (λ (k : Entry). k.command) (sym same) ∙ retires) i, sym (ap (λ (k : Entry). k.outcome) (sym same) ∙ allowed) i))
          (goes G e.actor x (ap (λ (k : Entry). k.actor) (sym same) ∙ by_x))
      | inr never ↦ absurd never
    ]
  ]

  subject : (seat x : ℕ) → WasAssumed (earlier ++ e ∷ []) seat x → IsSubject G x
  subject seat x (d, within, at, is, allowed) = elim (contains_append earlier (e ∷ []) d within) [
    | inl before ↦ l.agents seat x (d, before, at, is, allowed)
    | inr new ↦ elim new [
      | inl same ↦ turn_assumed limits earlier G e.seat e.actor e.command l e.outcome x (ap (λ (k : Entry). k.command) (sym same) ∙ is) (ap (λ (k : Entry). k.outcome) (sym same) ∙ allowed) permitted
      | inr never ↦ absurd never
    ]
  ]

along_keeps : (limits : Limits) (earlier : List Entry) (G : Protection) (es : List Entry) (H : Protection) → IsLawful earlier G → EntryRun limits earlier G es H → IsLawful (earlier ++ es) H
along_keeps limits earlier G [] H l along = subst (λ (p : List Entry × Protection). IsLawful p.0 p.1) (λ i. (sym (append-nil earlier) i, sym along i)) l
along_keeps limits earlier G (e ∷ es) H l along =
    let rest = along_keeps limits (earlier ++ e ∷ []) along.0 es H (turn_keeps limits earlier G e along.0 l along.1) along.2 in
    subst (λ (all : List Entry). IsLawful all H) (append_assoc earlier (e ∷ []) es) rest

pub lawful_first : (G : Protection) → IsGraph G → IsLawful [] G
lawful_first G graph = record { graph = graph; retired = λ x was. absurd was.1; agents = λ seat x was. absurd was.1 }

pub legal_keeps : (limits : Limits) (first : Protection) (es : List Entry) (G : Protection) → IsGraph first → Legal limits first es G → IsLawful es G
legal_keeps limits first es G graph legal = along_keeps limits [] first es G (lawful_first first graph) legal.graphs

-- whoever a seat assumed is a subject of the history's graph
pub assumed_subject : (limits : Limits) (first : Protection) (es : List Entry) (G : Protection) (seat x : ℕ) → IsGraph first → Legal limits first es G → WasAssumed es seat x → IsSubject G x
assumed_subject limits first es G seat x graph legal = (legal_keeps limits first es G graph legal).agents seat x

-- who goes is not another
kept_active : (ms : List Member) (x y : ℕ) → (y == x) ≡ false → has_serial ms y ≡ true → has_serial (without_member ms x) y ≡ true
kept_active [] x y other active = absurd (cc active)
kept_active (m ∷ ms) x y other active = by (kept_active ms x y other) (not (m.serial == x)) refl (or_cases (m.serial == y) (has_serial ms y) active) where
  by : (has_serial ms y ≡ true → has_serial (without_member ms x) y ≡ true) → (b : Bool) → not (m.serial == x) ≡ b → ((m.serial == y) ≡ true) ⊎ (has_serial ms y ≡ true) →
      has_serial (cond b (m ∷ without_member ms x) (without_member ms x)) y ≡ true
  by rest true kept (inl here) = or_left _ _ here
  by rest true kept (inr later) = or_right _ _ (rest later)
  by rest false gone (inl here) = let same : m.serial ≡ y = eqb-true m.serial y here in absurd (cc (gone, ap (λ n. not (n == x)) same, ap not other))
  by rest false gone (inr later) = rest later

-- a principal stays one unless it retires
done_active : (G : Protection) (x : ℕ) (d : Does) (y : ℕ) → is_active G y ≡ true → (is_active (done G x d) y ≡ true) ⊎ ((d ≡ effect.Retires) × (x ≡ y))
done_active G x (effect.Makes k α (Some name)) y active =
    let m = member_found G.names y active in
    let new : Member = record { name = name; serial = G.next } in
    inl (member_finds (G.names ++ new ∷ []) y (m.0, contains_left G.names (new ∷ []) m.0 m.1, m.2))
done_active G x (effect.Rewrites over text) y active = by (vertex G over) where
  by : (o : Option Vertex) → (is_active (with_text G over text o) y ≡ true) ⊎ ((effect.Rewrites over text ≡ effect.Retires) × (x ≡ y))
  by None = inl active
  by (Some e) = inl active
done_active G x effect.Retires y active = by (y == x) refl where
  by : (b : Bool) → (y == x) ≡ b → (is_active (done G x effect.Retires) y ≡ true) ⊎ ((effect.Retires ≡ effect.Retires) × (x ≡ y))
  by true same = inr (refl, sym (eqb-true y x same))
  by false other = inl (kept_active G.names x y other active)
done_active G x _ y active = inl active

retires_alone : (x : ℕ) (c : Command) → (terms x c).does ≡ effect.Retires → c ≡ command.Retire
retires_alone x command.Retire is = refl
retires_alone x _ is = absurd (cc is)

active_turns : (G : Protection) (x : ℕ) (c : Command) (o : Outcome) (y : ℕ) → is_active G y ≡ true →
    (is_active (next_graph G x c o) y ≡ true) ⊎ ((x ≡ y) × (c ≡ command.Retire) × (o ≡ outcome.Allowed))
active_turns G x c outcome.Allowed y active = elim (done_active G x (terms x c).does y active) [
  | inl still ↦ inl still
  | inr gone ↦ inr (gone.1, retires_alone x c gone.0, refl)
]
active_turns G x c _ y active = inl active

-- who is or was a principal is one or was one afterwards
pub was_stays : (G : Protection) (earlier : List Entry) (e : Entry) (y : ℕ) → WasPrincipal G earlier y → WasPrincipal (next_graph G e.actor e.command e.outcome) (earlier ++ e ∷ []) y
was_stays G earlier e y (inl active) = elim (active_turns G e.actor e.command e.outcome y active) [
  | inl still ↦ inl still
  | inr gone ↦ inr (e, contains_middle earlier [] e, gone.0, gone.1, gone.2)
]
was_stays G earlier e y (inr (d, within, by_y, retires, allowed)) = inr (d, contains_left earlier (e ∷ []) d within, by_y, retires, allowed)
