-- A vault before any event: over a configuration's graph, or any that its store holds.
use Rattle.std.proofs.Common.{◌≡◌, ℕ, zero, suc, List, [], length, replicate, refl, sym, ap, subst, ◌∙◌, inl, inr, None, arith}
use Rattle.std.specs.Prelude.{Option}
use Rattle.std.specs.FinMap as map
use Rattle.std.proofs.lemmas.List.Elements.{All-nil}
use Rattle.tg_graph.specs.declared.config.Config.{Config}
use Rattle.tg_graph.specs.Promise.Opening.{first_fault, opening, principal_count, subjects}
use Rattle.tg_graph.specs.Promise.Protection.{Protection, IsGraph, IsPart}
use Rattle.tg_graph.specs.Promise.Fullness.{vertex_count, edge_count}
use Rattle.tg_graph.proofs.FullnessLemmas.{length-keys}
use Rattle.tg_graph.proofs.ProtectionLemmas.{edge_to}
use Rattle.tg_graph.proofs.OpeningsFitLemmas.{len-subjects, openings_fit}
use Rattle.tg_graph.proofs.LawsLemmas.{opened}
use Rattle.tg_collect.proofs.OpeningLemmas.{openings_can_be_stored}
use Rattle.tg_collect.proofs.RunLemmas.{opened_graph, opened_phase, opened_subjects}
use Rattle.tg_collect.proofs.StoreLemmas.{idle_none_parked, idle_unparked}
use Rattle.tg_collect.specs.Promise.Stored.{Stored}
use Rattle.tg_collect.specs.declared.note.Phase.TheVariants.{Idle}
use Rattle.tg_collect.specs.Promise.Readings.{held, phase, principals, slot_count}
use Rattle.tg_collect.specs.Promise.Views.{IsStore}
use Rattle.tg_collect.specs.Promise.Openings.{IsOpening, Opened, first_serials}
use Rattle.tg_vault.specs.Promise.World.{NobodySits, at_seat}
use Rattle.tg_vault.specs.Promise.Seen.{serials}
use Rattle.tg_vault.specs.Inner.Seen.{graph_seen, set_of}
use Rattle.tg_vault.specs.Promise.Contents.{Contents, IsFresh, moment, IsOfSeat, Ties}
use Rattle.tg_vault.specs.Inner.Fits.{IsTied}
use Rattle.tg_vault.proofs.EdgeLemmas.{edge_count_seen}
use Rattle.tg_vault.proofs.SerialsLemmas.{opening_serials}

-- an empty table has nobody at any seat
none_sit : (n seat : ℕ) → at_seat (replicate n (let none : Option ℕ = None in none)) seat ≡ None
none_sit zero seat = refl
none_sit (suc n) zero = refl
none_sit (suc n) (suc seat) = none_sit n seat

-- each graph is a part of itself
part_itself : (G : Protection) → IsGraph G → IsPart G G
part_itself G g = record { vertices = λ v h. refl; labels = λ v w h. refl; closed = λ v w h e. edge_to G g v w e; names = refl; retired = refl }

-- between cycles a store holds a graph and nothing else, nobody sits anywhere, and no seat has a target or an agent
pub record Begins (v : Contents) : Type 0 where
  pub graph : IsGraph v.opening
  pub store : IsStore v.store
  pub holds : graph_seen v.store v.opening.next v.opening.names v.opening.retired ≡ v.opening
  pub idle : phase v.store ≡ Idle
  pub seats : length v.seats ≡ 64
  pub nobody : NobodySits v.seats
  pub unused : (seat x : ℕ) → IsOfSeat (moment v).world seat x → ⊥
  pub names : v.names ≡ v.opening.names
  pub principals : principals v.store ≡ serials v.names
  pub slots : slot_count v.store ≡ v.limits.slots
  pub cells : v.store.cells ≡ v.limits.cells

-- then a history may begin with that graph
pub begins_tied : (v : Contents) → Begins v → Ties (record v { history = [] })
begins_tied v b = record {
  vault = record {
    legal = record { graphs = refl };
    sat = All-nil _;
    seats = b.seats;
    seated = λ seat x at. absurd (cc (at, b.nobody seat));
  };
  opened = b.graph;
  part = subst (λ H. IsPart v.opening H) (sym b.holds) (part_itself v.opening b.graph);
  parked = λ x h. absurd (idle_unparked v.store b.idle x h);
  names = b.names;
  principals = b.principals;
  assumed = λ seat x at. absurd (b.unused seat x (inr at));
  taken = λ seat x of. absurd (b.unused seat x of);
  slots = b.slots;
  cells = b.cells;
  many_slots =
      let all = b.store.slots v.opening.next in
      let none = idle_none_parked v.store b.idle in
      let same : vertex_count (held v.store v.opening.next) ≡ vertex_count v.opening = ap vertex_count b.holds in
      let slots = b.slots in
      omega arith;
  many_cells =
      let all = b.store.all_cells (idle_unparked v.store b.idle) v.opening.next in
      let same : edge_count (held v.store v.opening.next) ≡ edge_count v.opening = sym (edge_count_seen v.store v.opening.next v.opening.next v.opening.names v.opening.retired) ∙ ap edge_count b.holds in
      let cells = b.cells in
      omega arith;
}

pub opening_fits : (c : Config) (G : Protection) → G ≡ opening c → first_fault c ≡ None → IsOpening G c.slots c.cells
opening_fits c G is sound = subst (λ K. IsOpening K c.slots c.cells) (sym is) (openings_can_be_stored c sound).opening

module _ (c : Config) (G : Protection) (s : Stored) (is : G ≡ opening c) (sound : first_fault c ≡ None) (g : IsGraph G) (store : IsStore s) (o : Opened s G c.slots c.cells) where
  abbrev fresh : Contents
  fresh = record { opening = G; names = G.names; limits = record { slots = c.slots; cells = c.cells }; seats = replicate 64 None; store = s; history = [] }

  counted : vertex_count G ≡ o.count
  counted = ap (λ m. length (map.keys m)) (opened_subjects o) ∙ length-keys (subjects o.count) ∙ len-subjects o.count

  count_is : principal_count c ≡ o.count
  count_is = sym (openings_fit c sound).0 ∙ sym (ap vertex_count is) ∙ counted

  principals_are : principals s ≡ serials G.names
  principals_are = o.opens.principals ∙ ap first_serials (sym count_is) ∙ sym (opening_serials c) ∙ ap (λ (K : Protection). serials K.names) (sym is)

  pub fresh_joined : (gone : List ℕ) → gone ≡ [] → IsTied fresh c.next gone
  unfolding opening
  fresh_joined gone none = record {
    joins = begins_tied fresh (record {
      graph = g;
      store = store;
      holds = opened_graph o;
      idle = opened_phase o;
      seats = refl;
      nobody = none_sit 64;
      unused = λ seat x of. elim of [ inl target ↦ cc (target, o.opens.idle seat) | inr agent ↦ cc (agent, o.opens.agents seat) ];
      names = refl;
      principals = principals_are;
      slots = o.opens.slots;
      cells = o.opens.cells;
    });
    serial = sym (ap (λ (K : Protection). K.next) is ∙ (opened c).next);
    retired = ap set_of none ∙ sym (ap (λ (K : Protection). K.retired) is);
  }

  pub fresh_is : IsFresh c fresh
  fresh_is = record {
    opening = is;
    names = ap (λ (K : Protection). K.names) is;
    limits = refl;
    seats = refl;
    history = refl;
    held = opened_graph o ∙ is;
    unparked = o.parked;
    phase = opened_phase o;
    idle = o.opens.idle;
    alone = o.opens.agents;
  }
