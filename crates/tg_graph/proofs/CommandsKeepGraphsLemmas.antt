-- What an allowed command leaves: a graph, and each subject a subject.
use Rattle.std.proofs.Common.{◌≡◌, ℕ, ◌<◌, ◌≤◌, [], Bool, true, false, cond, refl, sym, ap, subst, ◌∙◌, Some, None, ◌==◌, arith}
use Rattle.std.specs.Option.{option_map}
use Rattle.std.specs.Cmp.{nat_cmp_total, unsigned_tied}
use Rattle.std.specs.FinMap as map
use Rattle.std.proofs.lemmas.Bool.{eqb-true, eq-eqb, leb-true, and_parts, ne_eqb, not-false}
use Rattle.tg_rights.specs.declared.kind.Kind.TheVariants as kind
use Rattle.tg_rights.specs.declared.command.Command.{Command}
use Rattle.std.specs.Prelude.{Option}
use Rattle.tg_graph.specs.Promise.Terms as effect
use Rattle.tg_graph.specs.Promise.Terms.{Does, terms}
use Rattle.tg_rights.specs.declared.limits.TheConstants.{MAX_PRINCIPALS}
use Rattle.tg_graph.specs.declared.config.Config.{Config}
use Rattle.tg_graph.specs.declared.config.OpenFault.TheVariants as fault
use Rattle.tg_graph.specs.declared.vertex.Vertex.{Vertex}
use Rattle.tg_graph.specs.Promise.Opening.{first_fault, is_principal, principal_count, opening, faults}
use Rattle.tg_graph.specs.Promise.Protection.{Protection, IsGraph, IsSubject, IsVertex, vertex, kind_of}
use Rattle.tg_graph.specs.Promise.Rules.{Allowed, after, done, with_text}
use Rattle.tg_graph.proofs.LabelLemmas.{union-IsGraph, difference-IsGraph}
use Rattle.tg_graph.proofs.VertexLemmas.{IsVertex-from_kind, with_text-IsGraph, new-IsGraph, retired-IsGraph}
use Rattle.tg_graph.proofs.OpeningLemmas.{none_at, subjects_kind}
use Rattle.tg_graph.proofs.ProtectionLemmas.{Entitled, edge_to, entitled}

module _ (G : Protection) (x : ℕ) (g : IsGraph G) where
  abbrev pub Granted : IsVertex G x → Does → Type 0
  Granted x_in = Entitled G (IsVertex G) (λ v z k e. edge_to G g v z e) x x_in

  pub granted : (x_in : IsVertex G x) (c : Command) → Allowed G x c → Granted x_in (terms x c).does
  granted x_in c a = entitled G (IsVertex G) (λ v z k e. edge_to G g v z e) x x_in c a

  done_stays : (x_in : IsVertex G x) (e : Does) → Granted x_in e → IsGraph (done G x e)
  done_stays x_in (effect.Joins from α to) h = union-IsGraph G from to α g h.0 h.1 h.2
  done_stays x_in (effect.Makes k α name) h = new-IsGraph G x α (record { kind = k; text = [] }) name g x_in h.1 h.2
  done_stays x_in (effect.Drops α over) h = difference-IsGraph G x over α g
  done_stays x_in (effect.Rewrites over text) h = with_text-IsGraph G over text g
  done_stays x_in effect.Retires h = retired-IsGraph G x g x_in
  done_stays x_in _ h = g

pub graph_stays : (G : Protection) (x : ℕ) (c : Command) → IsGraph G → IsSubject G x → Allowed G x c → IsGraph (after G x c)
graph_stays G x c g s a = let x_in = IsVertex-from_kind G x kind.Subject s in done_stays G x g x_in (terms x c).does (granted G x g x_in c a)

-- what the effect of a subject's allowed command takes for granted
pub granted_to : (G : Protection) (x : ℕ) (c : Command) (d : Does) (g : IsGraph G) (s : IsSubject G x) → Allowed G x c → d ≡ (terms x c).does → Granted G x g (IsVertex-from_kind G x kind.Subject s) d
granted_to G x c d g s a is = let x_in = IsVertex-from_kind G x kind.Subject s in subst (Granted G x g x_in) (sym is) (granted G x g x_in c a)

-- another vertex is as it was
other_kind : (G : Protection) (v w : ℕ) (e : Vertex) → (w ≡ v → ⊥) → IsSubject G w → option_map (λ e. e.kind) (map.get (map.insert G.vertices v e) w) ≡ Some kind.Subject
other_kind G v w e apart s = ap (option_map (λ e. e.kind)) (map.get-insert nat_cmp_total G.vertices v e w ∙ ap (λ b. cond b (Some e) (vertex G w)) (unsigned_tied w v ∙ ne_eqb w v apart)) ∙ s

subject_left : (G : Protection) (x : ℕ) → IsGraph G → (e : Does) (v : ℕ) → IsSubject G v → IsSubject (done G x e) v
subject_left G x g (effect.Makes k α name) v s =
    other_kind G G.next v (record { kind = k; text = [] }) (λ is. let l : v < G.next = g.below_next v (IsVertex-from_kind G v kind.Subject s) in absurd (omega arith)) s
subject_left G x g (effect.Rewrites over text) v s = told (vertex G over) refl where
  told : (o : Option Vertex) → vertex G over ≡ o → IsSubject (with_text G over text o) v
  told None is = s
  told (Some e) is = by (v == over) refl where
    by : (b : Bool) → (v == over) ≡ b → IsSubject (with_text G over text (Some e)) v
    by true same = ap (option_map (λ e. e.kind)) (map.get-insert nat_cmp_total G.vertices over (record e { text = text }) v ∙ ap (λ b. cond b (Some (record e { text = text })) (vertex G v)) (unsigned_tied v over ∙ same))
        ∙ ap (option_map (λ e. e.kind)) (sym is) ∙ ap (kind_of G) (sym (eqb-true v over same)) ∙ s
    by false other = other_kind G over v (record e { text = text }) (λ is. absurd (cc (other, eq-eqb v over is))) s
subject_left G x g _ v s = s

pub subject_stays : (G : Protection) (x : ℕ) (c : Command) → IsGraph G → (v : ℕ) → IsSubject G v → IsSubject (after G x c) v
subject_stays G x c g v s = subject_left G x g (terms x c).does v s

pub principal_is_subject : (c : Config) → first_fault c ≡ None → (k : ℕ) → is_principal (principal_count c) k ≡ true → IsSubject (opening c) k
unfolding opening
principal_is_subject c sound k h = subjects_kind (principal_count c) k (leb-true 1 k (and_parts _ _ h).0) (leb-true k (principal_count c) (and_parts _ _ h).1)

pub principals_are_few : (c : Config) → first_fault c ≡ None → principal_count c ≤ MAX_PRINCIPALS
principals_are_few c sound = leb-true (principal_count c) MAX_PRINCIPALS (and_parts _ _ (not-false _ (none_at c (faults c) sound 0 fault.Limit (omega arith)))).1
