-- Steps of all kinds, carried over to a graph with the same rights by the four rules alone.
use Rattle.std.proofs.Common.{◌≡◌, ℕ, ◌+◌, ◌≤◌, ◌==◌, List, [], ◌∷◌, Bool, true, false, cond, refl, sym, ap, subst, ◌∙◌, Some, None}
use Rattle.std.specs.Prelude.{IsTrue, Option}
use Rattle.std.specs.List.{cons_option}
use Rattle.std.specs.Option.{option_map}
use Rattle.std.specs.Cmp.{nat_cmp_total, unsigned_tied}
use Rattle.std.specs.FinMap as map
use Rattle.std.specs.FinSet as set
use Rattle.std.proofs.lemmas.Bool.{eqb-true}
use Rattle.tg_rights.specs.Promise.Letters.{Letters, includes, rights_where}
use Rattle.tg_rights.specs.declared.kind.Kind.{Kind}
use Rattle.tg_rights.specs.declared.kind.Kind.TheVariants as kind
use Rattle.tg_rights.specs.declared.command.Command.{Command}
use Rattle.tg_rights.specs.declared.command.Command.TheVariants as command
use Rattle.tg_graph.specs.declared.derivation.Step.{Step}
use Rattle.tg_graph.specs.declared.rules.Need.{Need}
use Rattle.tg_graph.specs.declared.vertex.Vertex.{Vertex}
use Rattle.tg_graph.specs.Promise.Protection.{MayBeNamed, edge, Protection, kind_of, label, vertex}
use Rattle.tg_graph.specs.Promise.Rules.{Allowed, after, is_create, last_serial, names_rights, with_text}
use Rattle.tg_graph.specs.Promise.Terms.{terms}
use Rattle.tg_graph.specs.Promise.Laws.{AllMet, IsAsWanted}
use Rattle.tg_graph.specs.Promise.Derivations.{CarriesOut, Derives}
use Rattle.tg_graph.specs.Promise.Rewriting.{HasRightsOf, rewriting, rewriting_step, rewriting_steps}
use Rattle.tg_graph.proofs.AllowedIsMetLemmas.{allowed, meets}

-- the kind of each vertex once there is one more, or another in its place
kind_with : (G : Protection) (v : ℕ) (e : Vertex) (w : ℕ) →
    kind_of (record G { vertices = map.insert G.vertices v e }) w ≡ cond (w == v) (Some e.kind) (kind_of G w)
kind_with G v e w =
    ap (option_map (λ e. e.kind)) (map.get-insert nat_cmp_total G.vertices v e w ∙ ap (λ b. cond b (Some e) (vertex G w)) (unsigned_tied w v))
    ∙ inside (w == v) where
      inside : (b : Bool) → option_map (λ e. e.kind) (cond b (Some e) (vertex G w)) ≡ cond b (Some e.kind) (kind_of G w)
      inside true = refl
      inside false = refl

-- a text changes no kind
kind_kept : (G : Protection) (over : ℕ) (text : List ℕ) (o : Option Vertex) → vertex G over ≡ o → (w : ℕ) → kind_of (with_text G over text o) w ≡ kind_of G w
kind_kept G over text None is w = refl
kind_kept G over text (Some e) is w = kind_with G over (record e { text = text }) w ∙ by (w == over) refl where
  by : (b : Bool) → (w == over) ≡ b → cond b (Some e.kind) (kind_of G w) ≡ kind_of G w
  by true same = ap (option_map (λ e. e.kind)) (sym is) ∙ ap (kind_of G) (sym (eqb-true w over same))
  by false other = refl

module _ (H G : Protection) (h : HasRightsOf H G) where
  pub same_label : (x y : ℕ) → label H x y ≡ label G x y
  unfolding label
  same_label x y = λ i. rights_where (λ r. set.contains (h.triples i) (record { from = x; right = r; to = y }))

  still_met : (ns : List Need) → AllMet G ns → AllMet H ns
  still_met [] all = tt
  still_met (n ∷ ns) all = (subst (λ l. IsTrue (includes l n.rights)) (sym (same_label n.from n.to)) all.0, still_met ns all.1)

  -- what asks for no kind, no principal and no name is allowed alike
  allowed_alike : (x : ℕ) (c : Command) → (terms x c).wants ≡ None → (terms x c).principal ≡ false → (terms x c).name ≡ None → Allowed G x c → Allowed H x c
  allowed_alike x c kindless anyone nameless a =
      let m = meets G x c a in
      allowed H x c (record {
        unretired = λ _. h.unretired x;
        named = m.named;
        apart = m.apart;
        met = still_met (terms x c).needs m.met;
        wants = subst (IsAsWanted H) (sym kindless) tt;
        principal = λ e. absurd (cc (e, anyone));
        name = subst (MayBeNamed H.names) (sym nameless) tt;
      })

  created_alike : (x : ℕ) (α : Letters) → IsTrue (names_rights (Some α)) → Allowed H x (command.Create kind.Subject α)
  created_alike x α some =
      allowed H x (command.Create kind.Subject α) (record { unretired = λ _. h.unretired x; named = some; apart = refl; met = tt; wants = tt; principal = λ e. absurd (cc e); name = tt })

  carried_out : (x : ℕ) (c d : Command) → is_create x d ≡ is_create x c → CarriesOut G (record { actor = x; command = c }) (after G x c) → Allowed H x d →
      CarriesOut H (record { actor = x; command = d }) (after H x d)
  carried_out x c d same k a = record {
    subject = h.kinds x ∙ k.subject;
    allowed = a;
    room = λ makes. subst (λ n. n ≤ last_serial) (sym h.next) (k.room (sym same ∙ makes));
    result = refl;
  }

  made_alike : (x : ℕ) (k : Kind) (α : Letters) (w : ℕ) → kind_of (after H x (command.Create k α)) w ≡ kind_of (after G x (command.Create k α)) w
  made_alike x k α w =
      kind_with H H.next (record { kind = k; text = [] }) w ∙ (λ i. cond (w == h.next i) (Some k) (h.kinds w i)) ∙ sym (kind_with G G.next (record { kind = k; text = [] }) w)

-- what a step leaves of both graphs
abbrev pub Left : Protection → Protection → ℕ → Command → Option Command → Type 0
Left H G x c None = HasRightsOf H (after G x c)
Left H G x c (Some d) = HasRightsOf (after H x d) (after G x c)

pub rights_left : (H G : Protection) (x : ℕ) (c : Command) → HasRightsOf H G → Left H G x c (rewriting c)
rights_left H G x (command.Take α over from) h =
    record { kinds = h.kinds; next = h.next; triples = ap (λ t. set.union t (edge x α over)) h.triples; unretired = h.unretired }
rights_left H G x (command.Grant α over to) h =
    record { kinds = h.kinds; next = h.next; triples = ap (λ t. set.union t (edge to α over)) h.triples; unretired = h.unretired }
rights_left H G x (command.Create k α) h = record {
  kinds = made_alike H G h x k α;
  next = ap (λ n. n + 1) h.next;
  triples = λ i. set.union (h.triples i) (edge x α (h.next i));
  unretired = h.unretired;
}
rights_left H G x (command.Remove α over) h =
    record { kinds = h.kinds; next = h.next; triples = ap (λ t. set.difference t (edge x α over)) h.triples; unretired = h.unretired }
rights_left H G x (command.Write over text) h = by (vertex G over) refl where
  by : (o : Option Vertex) → vertex G over ≡ o → HasRightsOf H (with_text G over text o)
  by None is = h
  by (Some e) is = record { kinds = λ w. h.kinds w ∙ sym (kind_kept G over text (Some e) is w); next = h.next; triples = h.triples; unretired = h.unretired }
rights_left H G x (command.Enrol name α) h = record {
  kinds = made_alike H G h x kind.Subject α;
  next = ap (λ n. n + 1) h.next;
  triples = λ i. set.union (h.triples i) (edge x α (h.next i));
  unretired = h.unretired;
}
rights_left H G x command.Retire h = record { kinds = h.kinds; next = h.next; triples = h.triples; unretired = h.unretired }
rights_left H G x _ h = h

-- the step of the four rules is allowed where the step was
abbrev Allows : Protection → ℕ → Command → Option Command → Type 0
Allows H x c None = Unit {0}
Allows H x c (Some d) = Allowed H x d × (is_create x d ≡ is_create x c)

allows : (H G : Protection) (x : ℕ) (c : Command) → HasRightsOf H G → Allowed G x c → Allows H x c (rewriting c)
allows H G x (command.Take α over from) h a = (allowed_alike H G h x (command.Take α over from) refl refl refl a, refl)
allows H G x (command.Grant α over to) h a = (allowed_alike H G h x (command.Grant α over to) refl refl refl a, refl)
allows H G x (command.Create k α) h a = (allowed_alike H G h x (command.Create k α) refl refl refl a, refl)
allows H G x (command.Remove α over) h a = (allowed_alike H G h x (command.Remove α over) refl refl refl a, refl)
allows H G x (command.Enrol name α) h a = (created_alike H G h x α (meets G x (command.Enrol name α) a).named, refl)
allows H G x _ h a = tt

-- the list begins with the step of the four rules, if there is one
abbrev pub Onward : Protection → Protection → List Step → Type 0
Onward H K steps = (reached : Protection) × Derives H steps reached × HasRightsOf reached K

pub carried : (H G K : Protection) (x : ℕ) (c : Command) (rest : List Step) → HasRightsOf H G → CarriesOut G (record { actor = x; command = c }) (after G x c) →
    ((L : Protection) → HasRightsOf L (after G x c) → Onward L K rest) →
    Onward H K (cons_option (rewriting_step (record { actor = x; command = c })) rest)
carried H G K x c rest h k onward = by (rewriting c) (rights_left H G x c h) (allows H G x c h k.allowed) where
  by : (o : Option Command) → Left H G x c o → Allows H x c o →
      Onward H K (cons_option (option_map (λ d. record { actor = x; command = d }) o) rest)
  by None left may = onward H left
  by (Some d) left may =
      let there = onward (after H x d) left in
      (there.0, (after H x d, carried_out H G h x c d may.1 k may.0, there.1), there.2)

pub carry_over : (G K H : Protection) (steps : List Step) → HasRightsOf H G → Derives G steps K → Onward H K (rewriting_steps steps)
carry_over G K H [] h is = (H, refl, subst (HasRightsOf H) (sym is) h)
carry_over G K H (s ∷ ss) h d =
    carried H G K s.actor s.command (rewriting_steps ss) h
    (record { subject = d.1.subject; allowed = d.1.allowed; room = d.1.room; result = refl })
    (λ L left. carry_over (after G s.actor s.command) K L ss left (subst (λ B. Derives B ss K) d.1.result d.2))
