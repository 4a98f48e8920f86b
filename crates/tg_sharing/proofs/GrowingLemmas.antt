-- How derivations grow.
use Rattle.std.proofs.Common.{◌≡◌, ◌≢◌, ℕ, ◌<◌, ◌≤◌, ◌+◌, ◌∷◌, [], ◌++◌, List, Bool, true, false, refl, sym, ap, subst, ◌∙◌, ◌||◌, ◌⊎◌, inl, inr, Some, None, arith}
use Rattle.std.specs.Option.{option_map}
use Rattle.std.specs.FinMap as map
use Rattle.std.specs.FinSet as set
use Rattle.std.proofs.lemmas.Bool.{eq-eqb, or_left, or_right, and_from}
use Rattle.std.proofs.lemmas.Bool.Decides.{eqb_tells}
use Rattle.tg_rights.specs.Promise.Letters.{Letters, Right, read, write, take, grant, has, includes, is_none, take_alone, grant_alone}
use Rattle.tg_rights.specs.declared.kind.Kind.{Kind}
use Rattle.tg_rights.specs.declared.kind.Kind.TheVariants as kind
use Rattle.tg_rights.specs.declared.command.Command.{Command}
use Rattle.tg_rights.specs.declared.command.Command.TheVariants as command
use Rattle.tg_rights.specs.declared.outcome.Outcome.{Outcome}
use Rattle.tg_rights.specs.declared.outcome.Outcome.TheVariants as outcome
use Rattle.tg_rights.specs.declared.outcome.Which.TheVariants as which
use Rattle.tg_rights.specs.declared.outcome.Reply.{Reply}
use Rattle.tg_rights.specs.declared.outcome.Reply.TheVariants as reply
use Rattle.tg_rights.proofs.LettersLemmas.{are_set_operations, some_right, right_some}
use Rattle.tg_graph.specs.declared.derivation.Step.{Step}
use Rattle.tg_graph.specs.Promise.Protection.{Triple, edge, Protection, IsEdge, IsGraph, IsSubject, kind_of, label, vertex}
use Rattle.tg_graph.specs.Promise.Derivations.{CarriesOut, Derives}
use Rattle.tg_graph.specs.Promise.Rules.{Allowed, Applies, PlainlyDecided, after, done, is_create, last_serial, next_graph, reply_of}
use Rattle.tg_graph.specs.Promise.Terms as effect
use Rattle.tg_graph.proofs.LabelLemmas.{contains-label}
use Rattle.tg_graph.proofs.ProtectionLemmas.{edge_from, edge_to}
use Rattle.tg_graph.proofs.RollLemmas.{untrue}
use Rattle.tg_graph.proofs.TriplesLemmas.{contains-edge, triple_cmp_total}
use Rattle.tg_graph.proofs.VertexLemmas.{IsVertex-from_kind}
use Rattle.tg_graph.specs.Promise.EachCommand.{EachIsAllowedSo, HasAllOver, HasOver}
use Rattle.tg_sharing.specs.Promise.Spans.{IsActor}
use Rattle.tg_sharing.specs.Inner.Growing.{Continues, TakesFrom, Gives, KeepsAll, Makes, take_and_grant}
use Rattle.tg_sharing.specs.Inner.Paths.{Holds}
use Rattle.tg_sharing.specs.Promise.Fetching.{alone}
use Rattle.tg_sharing.specs.Inner.Fetching.{IsEnvoy}
use Rattle.tg_sharing.specs.declared.builder.Derivation.{Derivation}
use Rattle.tg_sharing.proofs.GrowthLemmas.{other_vertex, this_vertex}

-- right by right
pub holds_right : (G : Protection) (x : ℕ) (α : Letters) (y : ℕ) → Holds G x α y → HasAllOver G x α y
holds_right G x α y = (are_set_operations.inclusion (label G x y) α).0

pub holds_all : (G : Protection) (x : ℕ) (α : Letters) (y : ℕ) → HasAllOver G x α y → Holds G x α y
holds_all G x α y = (are_set_operations.inclusion (label G x y) α).1

-- a right that is there is included alone
pub includes_alone : (l : Letters) (r : Right) → has l r ≡ true → includes l (alone r) ≡ true
includes_alone l read h = ap (λ (b : Bool). includes (record l { read = b }) (alone read)) h
includes_alone l write h = ap (λ (b : Bool). includes (record l { write = b }) (alone write)) h
includes_alone l take h = ap (λ (b : Bool). includes (record l { take = b }) (alone take)) h
includes_alone l grant h = ap (λ (b : Bool). includes (record l { grant = b }) (alone grant)) h

pub take_held : (G : Protection) (x y : ℕ) → HasOver G x take y → Holds G x take_alone y
take_held G x y = includes_alone (label G x y) take

pub grant_held : (G : Protection) (x y : ℕ) → HasOver G x grant y → Holds G x grant_alone y
grant_held G x y = includes_alone (label G x y) grant

pub both_take : (G : Protection) (x y : ℕ) → Holds G x take_and_grant y → Holds G x take_alone y
both_take G x y h = take_held G x y (holds_right G x take_and_grant y h take refl)

pub both_grant : (G : Protection) (x y : ℕ) → Holds G x take_and_grant y → Holds G x grant_alone y
both_grant G x y h = grant_held G x y (holds_right G x take_and_grant y h grant refl)

-- who has some rights has an edge
pub held_edge : (G : Protection) (x : ℕ) (α : Letters) (y : ℕ) → is_none α ≡ false → Holds G x α y → IsEdge G x y
held_edge G x α y some h = let s = some_right α some in right_some (label G x y) s.0 (holds_right G x α y h s.0 s.1)

-- the ends of an edge are vertices below the next serial, and apart
module _ (G : Protection) (g : IsGraph G) (x : ℕ) (α : Letters) (y : ℕ) (some : is_none α ≡ false) (h : Holds G x α y) where
  some_held : (r : Right) × HasOver G x r y
  some_held = let s = some_right α some in (s.0, holds_right G x α y h s.0 s.1)

  pub held_low : y < G.next
  held_low = g.below_next y (edge_to G g x y (right_some (label G x y) some_held.0 some_held.1))

  pub holder_low : x < G.next
  holder_low = g.below_next x (edge_from G g x y (right_some (label G x y) some_held.0 some_held.1))

  pub held_apart : x ≢ y
  held_apart = g.distinct (record { from = x; right = some_held.0; to = y }) (contains-label G (record { from = x; right = some_held.0; to = y }) ∙ some_held.1)

pub actor_low : (G : Protection) → IsGraph G → (v : ℕ) → IsActor G v → v < G.next
actor_low G g v act = g.below_next v (IsVertex-from_kind G v kind.Subject act.0)

-- what is kept
pub Keeps-refl : (G : Protection) → KeepsAll G G
Keeps-refl G = record { rights = λ x r y h. h; actors = λ v h. h; next = omega arith }

pub Keeps-trans : (G H K : Protection) → KeepsAll G H → KeepsAll H K → KeepsAll G K
Keeps-trans G H K a b = record { rights = λ x r y h. b.rights x r y (a.rights x r y h); actors = λ v h. b.actors v (a.actors v h); next = omega (arith, a.next, b.next) }

pub keeps_holds : (G H : Protection) → KeepsAll G H → (x : ℕ) (α : Letters) (y : ℕ) → Holds G x α y → Holds H x α y
keeps_holds G H k x α y h = holds_all H x α y (λ r e. k.rights x r y (holds_right G x α y h r e))

pub keeps_draws : (G H : Protection) → KeepsAll G H → (x y : ℕ) → TakesFrom G x y → TakesFrom H x y
keeps_draws G H k x y d = elim d [ inl is ↦ inl is | inr h ↦ inr (keeps_holds G H k x take_alone y h) ]

pub keeps_gives : (G H : Protection) → KeepsAll G H → (x y : ℕ) → Gives G x y → Gives H x y
keeps_gives G H k x y d = elim d [ inl is ↦ inl is | inr h ↦ inr (keeps_holds G H k x grant_alone y h) ]

pub Continues-refl : (d : Derivation) → Continues d d
Continues-refl d = record { keeps = Keeps-refl d.graph; derived = λ G h. h }

pub Continues-trans : (d e f : Derivation) → Continues d e → Continues e f → Continues d f
Continues-trans d e f a b = record { keeps = Keeps-trans d.graph e.graph f.graph a.keeps b.keeps; derived = λ G h. b.derived G (a.derived G h) }

-- one more step at the end
pub derives_more : (ss : List Step) (s : Step) (G H K : Protection) → Derives G ss H → CarriesOut H s K → Derives G (ss ++ s ∷ []) K
derives_more [] s G H K is c = (K, subst (λ (F : Protection). CarriesOut F s K) is c, refl)
derives_more (t ∷ ss) s G H K (F, first, rest) c = (F, first, derives_more ss s F H K rest c)

-- an allowed command that makes no vertex is carried out
pub carried : (G : Protection) (x : ℕ) (c : Command) (answer : Reply) (H : Protection) → Applies G x c answer H → Allowed G x c → is_create x c ≡ false → H ≡ after G x c
carried G x c answer H (o, decided, told, is) a plain = by o decided is where
  by : (o : Outcome) → PlainlyDecided G x c o → H ≡ next_graph G x c o → H ≡ after G x c
  by outcome.Allowed d is = is
  by (outcome.Denied rule why) d is = absurd (cc (a, d.1))
  by (outcome.Full which.Serials) d is = absurd (cc (plain, d.1))
  by _ d is = absurd d

-- an allowed create is carried out, if a serial is left
pub created : (G : Protection) (x : ℕ) (k : Kind) (α : Letters) (answer : Reply) (H : Protection) → Applies G x (command.Create k α) answer H → Allowed G x (command.Create k α) →
    ((answer ≡ reply.Created G.next) × (H ≡ after G x (command.Create k α)) × (G.next ≤ last_serial)) ⊎ ((answer ≡ reply.Full which.Serials) × (H ≡ G) × (last_serial < G.next))
created G x k α answer H (o, decided, told, is) a = by o decided told is where
  by : (o : Outcome) → PlainlyDecided G x (command.Create k α) o → answer ≡ reply_of G x (command.Create k α) o → H ≡ next_graph G x (command.Create k α) o →
      ((answer ≡ reply.Created G.next) × (H ≡ after G x (command.Create k α)) × (G.next ≤ last_serial)) ⊎ ((answer ≡ reply.Full which.Serials) × (H ≡ G) × (last_serial < G.next))
  by outcome.Allowed d told is = inl (told, is, d.1 refl)
  by (outcome.Denied rule why) d told is = absurd (cc (a, d.1))
  by (outcome.Full which.Serials) d told is = inr (told, is, d.2)
  by _ d told is = absurd d

-- the edges of a union
module _ (G : Protection) (x : ℕ) (l : Letters) (y : ℕ) where
  abbrev pub grown : Protection
  grown = record G { triples = set.union G.triples (edge x l y) }

  there : (a : ℕ) (r : Right) (b : ℕ) → HasOver grown a r b ≡ ((set.contains G.triples (record { from = a; right = r; to = b }) || set.contains (edge x l y) (record { from = a; right = r; to = b })) ≡ true)
  there a r b = let t : Triple = record { from = a; right = r; to = b } in ap (λ (q : Bool). q ≡ true) (sym (contains-label grown t) ∙ set.contains-union triple_cmp_total G.triples (edge x l y) t)

  pub grown_keeps : (a : ℕ) (r : Right) (b : ℕ) → HasOver G a r b → HasOver grown a r b
  grown_keeps a r b h =
      let t : Triple = record { from = a; right = r; to = b } in
      sym (contains-label grown t) ∙ set.contains-union triple_cmp_total G.triples (edge x l y) t ∙ or_left _ _ (contains-label G t ∙ h)

  pub grown_has : (r : Right) → has l r ≡ true → HasOver grown x r y
  grown_has r h =
      let t : Triple = record { from = x; right = r; to = y } in
      sym (contains-label grown t) ∙ set.contains-union triple_cmp_total G.triples (edge x l y) t
      ∙ or_right _ _ (contains-edge x y l t ∙ and_from _ _ (eq-eqb x x refl) (and_from _ _ (eq-eqb y y refl) h))

  pub grown_Keeps : KeepsAll G grown
  grown_Keeps = record { rights = grown_keeps; actors = λ v h. h; next = omega arith }

  pub grown_holds : Holds grown x l y
  grown_holds = holds_all grown x l y grown_has

-- an actor may take, and may grant
module _ (law : EachIsAllowedSo) (G : Protection) (g : IsGraph G) (x : ℕ) (act : IsActor G x) (α : Letters) (some : is_none α ≡ false) where
  pub take_allowed : (y z : ℕ) → Holds G x take_alone z → Holds G z α y → x ≢ y → Allowed G x (command.Take α y z)
  take_allowed y z t h apart = ((law G x).takes α y z).1 (record {
    unretired = act.1;
    some = some;
    apart = (apart, held_apart G g x take_alone z refl t, λ is. held_apart G g z α y some h (sym is));
    over = holds_right G x take_alone z t take refl;
    there = holds_right G z α y h;
  })

  pub grant_allowed : (y z : ℕ) → Holds G x grant_alone z → Holds G x α y → z ≢ y → Allowed G x (command.Grant α y z)
  grant_allowed y z t h apart = ((law G x).grants α y z).1 (record {
    unretired = act.1;
    some = some;
    apart = (held_apart G g x α y some h, held_apart G g x grant_alone z refl t, λ is. apart (sym is));
    over = holds_right G x grant_alone z t grant refl;
    own = holds_right G x α y h;
  })

  pub create_allowed : (k : Kind) → Allowed G x (command.Create k α)
  create_allowed k = ((law G x).creates k α).1 (record { unretired = act.1; some = some })

-- a step that was carried out continues a derivation
pub stepped : (d e : Derivation) (s : Step) → IsSubject d.graph s.actor → Allowed d.graph s.actor s.command → (is_create s.actor s.command ≡ true → d.graph.next ≤ last_serial) →
    e.graph ≡ after d.graph s.actor s.command → e.steps.items ≡ d.steps.items ++ s ∷ [] → KeepsAll d.graph e.graph → Continues d e
stepped d e s subject a room is more keeps = record {
  keeps = keeps;
  derived = λ G h. subst (λ (l : List Step). Derives G l e.graph) (sym more) (derives_more d.steps.items s G d.graph e.graph h (record { subject = subject; allowed = a; room = room; result = is }));
}

-- what a create makes
module _ (G : Protection) (g : IsGraph G) (x : ℕ) (k : Kind) (α : Letters) where
  abbrev pub made : Protection
  made = done G x (effect.Makes k α None)

  made_kind : (v : ℕ) → v < G.next → kind_of made v ≡ kind_of G v
  made_kind v low = ap (option_map (λ e. e.kind)) (other_vertex G G.next v (record { kind = k; text = [] }) (λ is. absurd (omega (arith, low, is))))

  made_new : kind_of made G.next ≡ Some k
  made_new = ap (option_map (λ e. e.kind)) (this_vertex G G.next (record { kind = k; text = [] }))

  pub made_actor : k ≡ kind.Subject → IsActor made G.next
  made_actor is = (made_new ∙ ap (λ (k : Kind). Some k) is, untrue _ (λ e. let low : G.next < G.next = g.roll.past G.next e in absurd (omega (arith, low))))

  same_has : (a : ℕ) (r : Right) (b : ℕ) → HasOver (grown G x α G.next) a r b → HasOver made a r b
  same_has a r b h = let t : Triple = record { from = a; right = r; to = b } in sym (contains-label made t) ∙ contains-label (grown G x α G.next) t ∙ h

  pub made_Keeps : KeepsAll G made
  made_Keeps = record {
    rights = λ a r b h. same_has a r b (grown_keeps G x α G.next a r b h);
    actors = λ v act. (made_kind v (actor_low G g v act) ∙ act.0, act.1);
    next = omega arith;
  }

  pub made_holds : Holds made x α G.next
  made_holds = holds_all made x α G.next (λ r e. same_has x r G.next (grown_has G x α G.next r e))

-- a take, a grant and a create that were carried out
module _ (law : EachIsAllowedSo) (d e : Derivation) (g : IsGraph d.graph) (x : ℕ) (act : IsActor d.graph x) (α : Letters) (some : is_none α ≡ false) where
  pub took : (y z : ℕ) → Holds d.graph x take_alone z → Holds d.graph z α y → x ≢ y → e.graph ≡ after d.graph x (command.Take α y z) →
      e.steps.items ≡ d.steps.items ++ record { actor = x; command = command.Take α y z } ∷ [] → Continues d e × Holds e.graph x α y
  took y z t h apart is more = (
    stepped d e (record { actor = x; command = command.Take α y z }) act.0 (take_allowed law d.graph g x act α some y z t h apart) (λ f. absurd (cc f)) is more (subst (KeepsAll d.graph) (sym is) (grown_Keeps d.graph x α y)),
    subst (λ (H : Protection). Holds H x α y) (sym is) (grown_holds d.graph x α y),
  )

  pub granted : (y z : ℕ) → Holds d.graph x grant_alone z → Holds d.graph x α y → z ≢ y → e.graph ≡ after d.graph x (command.Grant α y z) →
      e.steps.items ≡ d.steps.items ++ record { actor = x; command = command.Grant α y z } ∷ [] → Continues d e × Holds e.graph z α y
  granted y z t h apart is more = (
    stepped d e (record { actor = x; command = command.Grant α y z }) act.0 (grant_allowed law d.graph g x act α some y z t h apart) (λ f. absurd (cc f)) is more (subst (KeepsAll d.graph) (sym is) (grown_Keeps d.graph z α y)),
    subst (λ (H : Protection). Holds H z α y) (sym is) (grown_holds d.graph z α y),
  )

-- what was gained over another vertex can be drawn from
pub draws_gained : (G : Protection) (x y : ℕ) → (x ≢ y → Holds G x take_alone y) → TakesFrom G x y
draws_gained G x y f = elim (eqb_tells x y) [ inl is ↦ inl is.1 | inr apart ↦ inr (f apart.1) ]

pub gives_gained : (G : Protection) (x y : ℕ) → (x ≢ y → Holds G x grant_alone y) → Gives G x y
gives_gained G x y f = elim (eqb_tells x y) [ inl is ↦ inl is.1 | inr apart ↦ inr (f apart.1) ]

-- a create that was carried out
pub created_step : EachIsAllowedSo → (d e : Derivation) → IsGraph d.graph → (x : ℕ) → IsActor d.graph x → (k : Kind) → d.graph.next ≤ last_serial → e.graph ≡ after d.graph x (command.Create k take_and_grant) →
    e.steps.items ≡ d.steps.items ++ record { actor = x; command = command.Create k take_and_grant } ∷ [] → Continues d e × Makes d e x k d.graph.next
created_step law d e g x act k room is more = (
  stepped d e (record { actor = x; command = command.Create k take_and_grant }) act.0 (create_allowed law d.graph g x act take_and_grant refl k) (λ _. room) is more (subst (KeepsAll d.graph) (sym is) (made_Keeps d.graph g x k take_and_grant)),
  record {
    fresh = refl;
    low = let next : e.graph.next ≡ d.graph.next + 1 = ap (λ (H : Protection). H.next) is in omega (arith, next);
    held = subst (λ (H : Protection). Holds H x take_and_grant d.graph.next) (sym is) (made_holds d.graph g x k take_and_grant);
    actor = λ f. subst (λ (H : Protection). IsActor H d.graph.next) (sym is) (made_actor d.graph g x k take_and_grant f);
  },
)

-- no step was carried out
pub same_graph : (d e : Derivation) → e.graph ≡ d.graph → e.steps.items ≡ d.steps.items → Continues d e
same_graph d e is same = record {
  keeps = subst (KeepsAll d.graph) (sym is) (Keeps-refl d.graph);
  derived = λ G h. subst (λ (l : List Step). Derives G l e.graph) (sym same) (subst (λ (H : Protection). Derives G d.steps.items H) (sym is) h);
}

-- edges of the first graph, later
pub grant_later : (G W : Protection) → KeepsAll G W → (x y : ℕ) → HasOver G x grant y → Holds W x grant_alone y
grant_later G W k x y h = keeps_holds G W k x grant_alone y (grant_held G x y h)

pub take_later : (G W : Protection) → KeepsAll G W → (x y : ℕ) → HasOver G x take y → Holds W x take_alone y
take_later G W k x y h = keeps_holds G W k x take_alone y (take_held G x y h)

pub edge_low : (G : Protection) → IsGraph G → (x : ℕ) (r : Right) (y : ℕ) → HasOver G x r y → y < G.next
edge_low G g x r y h = g.below_next y (edge_to G g x y (right_some (label G x y) r h))

pub edge_high : (G : Protection) → IsGraph G → (x : ℕ) (r : Right) (y : ℕ) → HasOver G x r y → x < G.next
edge_high G g x r y h = g.below_next x (edge_from G g x y (right_some (label G x y) r h))

pub keeps_envoy : (G H : Protection) → KeepsAll G H → (α : Letters) (to envoy : ℕ) → IsEnvoy G α to envoy → IsEnvoy H α to envoy
keeps_envoy G H k α to envoy h = record { actor = k.actors envoy h.actor; ready = keeps_holds G H k envoy α to h.ready }
