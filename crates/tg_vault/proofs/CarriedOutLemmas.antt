-- what the calls of a store do for an effect that the rules allow
use Rattle.std.proofs.Common.{◌≡◌, ℕ, ◌+◌, ◌≤◌, Bool, true, false, cond, [], refl, sym, ap, subst, ◌∙◌, ◌⊎◌, inl, inr, Some, None, Result, Ok, Err, arith, List, set as set_at}
use Rattle.std.specs.Prelude.{Option}
use Rattle.std.specs.Option.{is_some}
use Rattle.std.specs.Ordering.{nat_cmp}
use Rattle.std.specs.FinMap as map
use Rattle.std.specs.FinSet as set
use Rattle.tg_rights.specs.Promise.Letters.{Letters, joined, without, is_none}
use Rattle.tg_rights.specs.Promise.Command.{rule_of}
use Rattle.tg_rights.specs.declared.kind.Kind.{Kind}
use Rattle.tg_rights.specs.declared.command.Command.{Command}
use Rattle.tg_rights.specs.declared.outcome.Cause.{Cause}
use Rattle.tg_rights.specs.declared.outcome.Which.{Which}
use Rattle.tg_rights.specs.declared.outcome.Which.TheVariants as which
use Rattle.tg_rights.specs.declared.outcome.Reply.{Reply}
use Rattle.tg_rights.specs.declared.outcome.Reply.TheVariants as reply
use Rattle.tg_graph.specs.declared.member.Member.{Member}
use Rattle.tg_graph.specs.declared.vertex.Vertex.{Vertex}
use Rattle.tg_graph.specs.declared.rules.Spot.{Spot}
use Rattle.tg_graph.specs.declared.rules.Found.{Found}
use Rattle.tg_graph.specs.Promise.Protection.{with_member, without_member, edge, Protection, IsEdge, label, vertex}
use Rattle.tg_graph.specs.Promise.Terms as effect
use Rattle.tg_graph.specs.Promise.Terms.{Does, terms}
use Rattle.tg_graph.specs.Promise.Deciding.{Each}
use Rattle.tg_graph.specs.Promise.Fullness.{NewEdge, edges_at}
use Rattle.tg_graph.specs.Promise.Rules.{Allowed, answered, denial, done, edges_of, is_new, last_serial, text_of, with_text}
use Rattle.tg_collect.specs.Promise.Stored.{Stored}
use Rattle.tg_collect.specs.Promise.Readings.{agents, held, pending, principals, free_slots, place, serial_at}
use Rattle.tg_collect.specs.Promise.Sessions.{Assumed, EdgeStored, AgentLeft, Retired, RightsRemoved, TextReplaced, Acted}
use Rattle.tg_collect.proofs.SeatLemmas.{acted_same}
use Rattle.tg_collect.proofs.RunLemmas.{acted_slots, agents_set, pending_set, text_graph}
use Rattle.tg_collect.proofs.StoreLemmas.{edge_in, in_edge}
use Rattle.tg_vault.specs.Promise.World.{new_agents, new_target, with_pending}
use Rattle.tg_vault.specs.declared.carry_out.State.{State}
use Rattle.tg_vault.specs.Promise.Seen.{serials}
use Rattle.tg_vault.specs.Inner.Seen.{graph_seen, seen_in, set_of}
use Rattle.tg_vault.specs.Promise.Contents.{IsUsedUp}
use Rattle.tg_vault.specs.Inner.CarriedOut.{CarriedIn, EdgeMoves, Joined, Made, NoRoom, Stores, copies, denied, serial_given, settled}
use Rattle.tg_vault.proofs.EdgeLemmas.{edge_seen, edges_seen, joined_some, label_cut, label_seen, seen_edge}
use Rattle.tg_vault.proofs.PlaceLemmas.{serial_is}
use Rattle.tg_vault.proofs.SerialsLemmas.{serials_left, serials_pushed}

-- the spot of a vertex that was found is its slot
pub placed : (s : Stored) (f : Found ℕ) (spot : Spot ℕ) (v : ℕ) → Each (λ p. place s p.place ≡ Some p.serial) f → (spot ≡ f.actor) ⊎ (f.first ≡ Some spot) ⊎ (f.then ≡ Some spot) → spot.serial ≡ v →
    place s spot.place ≡ Some v
placed s f spot v each found at = by found ∙ ap (λ n. Some n) at where
  by : (spot ≡ f.actor) ⊎ (f.first ≡ Some spot) ⊎ (f.then ≡ Some spot) → place s spot.place ≡ Some spot.serial
  by (inl is) = subst (λ (p : Spot ℕ). place s p.place ≡ Some p.serial) (sym is) each.actor
  by (inr (inl is)) = each.first spot is
  by (inr (inr is)) = each.then spot is

pub serial_found : (s : Stored) (f : Found ℕ) (spot : Spot ℕ) (v : ℕ) → Each (λ p. place s p.place ≡ Some p.serial) f → (spot ≡ f.actor) ⊎ (f.first ≡ Some spot) ⊎ (f.then ≡ Some spot) → spot.serial ≡ v →
    serial_at s spot.place ≡ v
serial_found s f spot v each found at = serial_is s spot.place v (placed s f spot v each found at)

-- an effect that makes no vertex and no edge needs nothing
pub needs_none : (G : Protection) (f g : ℕ) (d : Does) → is_new d ≡ false → (NewEdge G d → ⊥) → (w : Which) → IsUsedUp G f g d w → ⊥
needs_none G f g d old none which.Cells u = none u.0
needs_none G f g d old none _ u = cc (old, u.0)

-- what the store's calls leave of edges and cells
module _ (s t : Stored) (next seat : ℕ) where
  abbrev H : Protection
  H = held s next

  -- free cells and the label of an edge that gains rights
  cells_joined : (x y : ℕ) (α : Letters) → is_none α ≡ false → EdgeStored s t seat x y α → t.free_cells + edges_at (joined (label H x y) α) ≡ s.free_cells + edges_at (label H x y)
  cells_joined x y α some stored = by (is_none (label H x y)) refl where
    full : edges_at (joined (label H x y) α) ≡ 1
    full = ap (λ b. cond b 0 1) (joined_some (label H x y) α some)

    by : (b : Bool) → is_none (label H x y) ≡ b → t.free_cells + edges_at (joined (label H x y) α) ≡ s.free_cells + edges_at (label H x y)
    by true none =
        let old : edges_at (label H x y) ≡ 0 = ap (λ b. cond b 0 1) none in
        let new = stored.new (λ e. cc (none, in_edge s next x y e)) in
        let f = full in
        omega arith
    by false here =
        let old : edges_at (label H x y) ≡ 1 = ap (λ b. cond b 0 1) here in
        let same = stored.joined (edge_in s next x y here) in
        let f = full in
        omega arith

  had_room : (x y : ℕ) (α : Letters) → EdgeStored s t seat x y α → (IsEdge H x y → ⊥) → s.free_cells ≡ 0 → ⊥
  had_room x y α stored absent none = let new = stored.new (λ e. absent (in_edge s next x y e)) in absurd (omega arith)

  -- free cells and the label of an edge that loses rights
  cells_cut : (x y : ℕ) (α : Letters) → IsEdge H x y → RightsRemoved s t x y α → t.free_cells + edges_at (without (label H x y) α) ≡ s.free_cells + edges_at (label H x y)
  cells_cut x y α here removed = by (is_none (without (label H x y) α)) refl where
    old : edges_at (label H x y) ≡ 1
    old = ap (λ b. cond b 0 1) here

    left : label (held t next) x y ≡ without (label H x y) α
    left = ap (λ K. label K x y) (removed.graph next) ∙ label_cut H x y α

    by : (b : Bool) → is_none (without (label H x y) α) ≡ b → t.free_cells + edges_at (without (label H x y) α) ≡ s.free_cells + edges_at (label H x y)
    by true none =
        let now : edges_at (without (label H x y) α) ≡ 0 = ap (λ b. cond b 0 1) none in
        let back = removed.gone (λ e. cc (ap is_none left ∙ none, in_edge t next x y e)) in
        let o = old in
        omega arith
    by false some =
        let now : edges_at (without (label H x y) α) ≡ 1 = ap (λ b. cond b 0 1) some in
        let same = removed.kept (edge_in t next x y (ap is_none left ∙ some)) in
        let o = old in
        omega arith

-- a text is put into a graph, whoever is a principal there
with_text_among : (names : List Member) (retired : set.FinSet nat_cmp) (G : Protection) (over : ℕ) (text : List ℕ) (o : Option Vertex) →
    record (with_text G over text o) { names = names; retired = retired } ≡ with_text (record G { names = names; retired = retired }) over text o
with_text_among names retired G over text None = refl
with_text_among names retired G over text (Some e) = refl

module _ (s t : Stored) (next : ℕ) (names : List Member) (retired : set.FinSet nat_cmp) (seat : ℕ) where
  abbrev S : Protection
  S = graph_seen s next names retired

  -- an effect was carried out in the store and in what is kept besides, with this reply
  pub record IsDone (K : Protection) (x : ℕ) (d : Does) (answer : Reply) : Type 0 where
    pub room : (w : Which) → IsUsedUp S (free_slots s) s.free_cells d w → ⊥
    pub replied : answer ≡ answered S d
    pub graph : K ≡ done S x d
    pub pending : pending t ≡ with_pending (pending s) seat (new_target S d)
    pub agents : agents t ≡ new_agents (agents s) seat d
    pub acted : Acted s t (serial_given next d) (new_target S d)
    pub listed : principals t ≡ serials K.names
    pub slots : free_slots s ≡ free_slots t + cond (is_new d) 1 0
    pub cells : EdgeMoves S s.free_cells t.free_cells x d

  -- something that it needs is used up, and nothing changed
  pub record IsFull (K : Protection) (d : Does) (w : Which) : Type 0 where
    pub used : IsUsedUp S (free_slots s) s.free_cells d w
    pub same : t ≡ s
    pub kept : K ≡ S

  abbrev pub ByEffect : (K : Protection) → (x : ℕ) → Does → Result Reply Which → Type 0
  ByEffect K x d (Ok answer) = IsDone K x d answer
  ByEffect K x d (Err w) = IsFull K d w

  -- with other principals and others retired
  among : {G K : Protection} → G ≡ K → record G { names = names; retired = retired } ≡ record K { names = names; retired = retired }
  among is = λ i. record (is i) { names = names; retired = retired }

  -- the store has changed, and nothing else that is kept
  abbrev T : Protection
  T = graph_seen t next names retired

  module _ (known : principals s ≡ serials names) where
    pub carried_by : (K : Protection) (x : ℕ) (c : Command) (d : Does) (r : Result Reply Which) → d ≡ (terms x c).does → Allowed S x c → ByEffect K x d r → CarriedIn S K s t seat x c (settled r)
    carried_by K x c d r is a came = by r (subst (λ e. ByEffect K x e r) is came) where
      by : (r : Result Reply Which) → ByEffect K x (terms x c).does r → CarriedIn S K s t seat x c (settled r)
      by (Ok answer) k = record {
        decided = (a, k.room);
        replied = k.replied;
        graph = k.graph;
        pending = k.pending;
        agents = k.agents;
        acted = k.acted;
        principals = k.listed;
        slots = k.slots;
        cells = k.cells;
      }
      by (Err w) f = record {
        decided = (a, f.used);
        replied = refl;
        graph = f.kept;
        pending = ap (λ k. pending k) f.same;
        agents = ap (λ k. agents k) f.same;
        acted = subst (λ (k : Stored). Acted s k None None) (sym f.same) (acted_same s s refl);
        principals = ap (λ (k : Stored). principals k) f.same ∙ known ∙ ap (λ (G : Protection). serials G.names) (sym f.kept);
        slots = let same = ap (λ k. free_slots k) f.same in omega arith;
        cells = ap (λ k. k.free_cells) f.same;
      }

    pub join_done : (x from to : ℕ) (α : Letters) (r : Result Reply Which) → is_none α ≡ false → Joined s t seat from to α r → ByEffect T x (effect.Joins from α to) r
    join_done x from to α (Ok reply.Done) some j = record {
      room = room;
      replied = refl;
      graph = among (j.0.graph next);
      pending = pending_set s t seat (Some j.0.target) (ap (λ z. z.roots.targets) j.0.is) ∙ ap (λ n. set_at (pending s) seat (Some n)) j.0.named;
      agents = ap (λ z. agents z) j.0.is;
      acted = j.1;
      listed = ap (λ z. principals z) j.0.is ∙ known;
      slots = let same = acted_slots j.1 in omega arith;
      cells = subst (λ l. t.free_cells + edges_at (joined l α) ≡ s.free_cells + edges_at l) (sym (label_seen s next next names retired from to)) (cells_joined s t next seat from to α some j.0);
    } where
      room : (w : Which) → IsUsedUp S (free_slots s) s.free_cells (effect.Joins from α to) w → ⊥
      room which.Cells u = had_room s t next seat from to α j.0 (λ e. u.0 (edge_seen s next next names retired from to e)) u.2
      room _ u = cc u.0
    join_done x from to α (Err which.Cells) some j =
        record { used = (λ e. j.2 (edge_in s next from to (seen_edge s next next names retired from to e)), λ e. absurd (cc e), j.1); same = j.0; kept = (λ i. graph_seen (j.0 i) next names retired) }
    join_done x from to α _ some j = absurd j

    -- what a new vertex leaves, whether it is a principal or not
    record IsStored (x : ℕ) (k : Kind) (α : Letters) (name : Option (List ℕ)) : Type 0 where
      pub graph : (n : ℕ) → held t n ≡ record (held s n) { vertices = map.insert (held s n).vertices next (record { kind = k; text = [] }); triples = set.union (held s n).triples (edge x α next) }
      pub targets : pending t ≡ set_at (pending s) seat (Some next)
      pub agents : agents t ≡ agents s
      pub listed : principals t ≡ serials (with_member names name next)
      pub slots : free_slots s ≡ free_slots t + 1
      pub cells : s.free_cells ≡ t.free_cells + 1

    stored : (x : ℕ) (k : Kind) (α : Letters) (name : Option (List ℕ)) → Stores s t seat x next k α name → IsStored x k α name
    stored x k α None v = record {
      graph = v.graph;
      targets = pending_set s t seat (Some (record { serial = next; slot = v.new })) (ap (λ z. z.roots.targets) v.is);
      agents = ap (λ z. agents z) v.is;
      listed = ap (λ z. principals z) v.is ∙ known;
      slots = v.free_slots;
      cells = v.free_cells;
    }
    stored x k α (Some name) (subject, p) = subst (λ k. IsStored x k α (Some name)) (sym subject) (record {
      graph = λ n. ap (λ z. held z n) p.is ∙ p.vertex.graph n;
      targets = pending_set s t seat (Some (record { serial = next; slot = p.vertex.new })) (ap (λ z. z.roots.targets) p.is ∙ ap (λ z. z.roots.targets) p.vertex.is);
      agents = ap (λ z. agents z) p.is ∙ ap (λ z. agents z) p.vertex.is;
      listed = serials_pushed s t names known seat x next [] α name p;
      slots = p.vertex.free_slots ∙ ap (λ z. free_slots z + 1) (sym p.is);
      cells = p.vertex.free_cells ∙ ap (λ z. z.free_cells + 1) (sym p.is);
    })

    pub stored_done : (x : ℕ) (k : Kind) (α : Letters) (name : Option (List ℕ)) → next ≤ last_serial → Stores s t seat x next k α name → Acted s t (Some next) (Some next) →
        ByEffect (graph_seen t (next + 1) (with_member names name next) retired) x (effect.Makes k α name) (Ok (reply.Created next))
    stored_done x k α name few stores acted = record {
      room = room;
      replied = refl;
      graph = (λ i. record (new.graph (next + 1) i) { names = with_member names name next; retired = retired });
      pending = new.targets;
      agents = new.agents;
      acted = acted;
      listed = new.listed;
      slots = new.slots;
      cells = new.cells;
    } where
      new : IsStored x k α name
      new = stored x k α name stores

      room : (w : Which) → IsUsedUp S (free_slots s) s.free_cells (effect.Makes k α name) w → ⊥
      room which.Serials u = let low = few in let high = u.1 in absurd (omega arith)
      room which.Slots u = let none = u.2 in let had = new.slots in absurd (omega arith)
      room which.Cells u = let none = u.2 in let had = new.cells in absurd (omega arith)

    pub drop_done : (x over : ℕ) (α : Letters) → IsEdge (held s next) x over → RightsRemoved s t x over α → Acted s t None None → ByEffect T x (effect.Drops α over) (Ok reply.Done)
    drop_done x over α here removed acted = record {
      room = needs_none S (free_slots s) s.free_cells (effect.Drops α over) refl (λ u. u);
      replied = refl;
      graph = among (removed.graph next);
      pending = ap (λ z. pending z) removed.is;
      agents = ap (λ z. agents z) removed.is;
      acted = acted;
      listed = ap (λ z. principals z) removed.is ∙ known;
      slots = let same = acted_slots acted in omega arith;
      cells = subst (λ l. t.free_cells + edges_at (without l α) ≡ s.free_cells + edges_at l) (sym (label_seen s next next names retired x over)) (cells_cut s t next seat x over α here removed);
    }

    pub rewrite_done : (x over : ℕ) (text old : List ℕ) → TextReplaced s t over text old → Acted s t None None → ByEffect T x (effect.Rewrites over text) (Ok reply.Done)
    rewrite_done x over text old replaced acted = record {
      room = needs_none S (free_slots s) s.free_cells (effect.Rewrites over text) refl (λ u. u);
      replied = refl;
      graph = among (text_graph replaced next) ∙ with_text_among names retired (held s next) over text (vertex (held s next) over);
      pending = ap (λ z. pending z) replaced.is;
      agents = ap (λ z. agents z) replaced.is;
      acted = acted;
      listed = ap (λ z. principals z) replaced.is ∙ known;
      slots = let same = acted_slots acted in omega arith;
      cells = ap (λ z. z.free_cells) replaced.is;
    }

    pub retire_done : (x : ℕ) (left : List Member) (gone : set.FinSet nat_cmp) → left ≡ without_member names x → gone ≡ set.insert retired x → Retired s t x → Acted s t None None →
        ByEffect (graph_seen t next left gone) x effect.Retires (Ok reply.Done)
    retire_done x left gone is more goes acted = record {
      room = needs_none S (free_slots s) s.free_cells effect.Retires refl (λ u. u);
      replied = refl;
      graph = (λ i. record (held (goes i) next) { names = is i; retired = more i });
      pending = ap (λ z. pending z) goes;
      agents = ap (λ z. agents z) goes;
      acted = acted;
      listed = serials_left s t names known x goes ∙ ap serials (sym is);
      slots = let same = acted_slots acted in omega arith;
      cells = ap (λ z. z.free_cells) goes;
    }

    pub assume_done : (x agent : ℕ) → Assumed s t seat agent → Acted s t None (Some agent) → ByEffect T x (effect.Acts (Some agent)) (Ok reply.Done)
    assume_done x agent assumed acted = record {
      room = needs_none S (free_slots s) s.free_cells (effect.Acts (Some agent)) refl (λ u. u);
      replied = refl;
      graph = among (ap (λ z. held z next) assumed.is);
      pending = pending_set s t seat (Some (record { serial = agent; slot = assumed.slot })) (ap (λ z. z.roots.targets) assumed.is);
      agents = agents_set s t seat (Some (record { serial = agent; slot = assumed.slot })) (ap (λ z. z.roots.agents) assumed.is);
      acted = acted;
      listed = ap (λ z. principals z) assumed.is ∙ known;
      slots = let same = acted_slots acted in omega arith;
      cells = ap (λ z. z.free_cells) assumed.is;
    }

    pub leave_done : (x : ℕ) → AgentLeft s t seat → Acted s t None None → ByEffect T x (effect.Acts None) (Ok reply.Done)
    leave_done x left acted = record {
      room = needs_none S (free_slots s) s.free_cells (effect.Acts None) refl (λ u. u);
      replied = refl;
      graph = among (ap (λ z. held z next) left);
      pending = ap (λ z. pending z) left;
      agents = agents_set s t seat None (ap (λ z. z.roots.agents) left);
      acted = acted;
      listed = ap (λ z. principals z) left ∙ known;
      slots = let same = acted_slots acted in omega arith;
      cells = ap (λ z. z.free_cells) left;
    }

-- a vertex was made, or there was no room for it
pub make_done : (old new : State) (seat : ℕ) (known : principals old.store ≡ serials old.names) (x : ℕ) (k : Kind) (α : Letters) (name : Option (List ℕ)) (r : Result Reply Which) → Made old new seat x k α name r →
    ByEffect old.store new.store old.next old.names (set_of old.retired.keys) seat (seen_in new) x (effect.Makes k α name) r
make_done old new seat known x k α name (Ok (reply.Created serial)) m =
    subst (λ (w : Protection × ℕ). ByEffect old.store new.store old.next old.names (set_of old.retired.keys) seat w.0 x (effect.Makes k α name) (Ok (reply.Created w.1)))
    (sym (λ i. (graph_seen new.store (m.2 i) (m.3 i) (set_of (m.4 i).keys), m.0 i)))
    (stored_done old.store new.store old.next old.names (set_of old.retired.keys) seat known x k α name m.1 m.5 m.6)
make_done old new seat known x k α name (Err full) m = record { used = no_room full m.1; same = (λ i. (m.0 i).store); kept = (λ i. seen_in (m.0 i)) } where
  no_room : (w : Which) → NoRoom old.store old.next w → IsUsedUp (seen_in old) (free_slots old.store) old.store.free_cells (effect.Makes k α name) w
  no_room which.Serials n = (refl, n)
  no_room which.Slots n = (refl, n.0, n.1)
  no_room which.Cells n = (n.0, (λ _. n.1), n.2)
make_done old new seat known x k α name _ m = absurd m

-- reads, looks and denials change nothing
module _ (s : Stored) (next : ℕ) (names : List Member) (retired : set.FinSet nat_cmp) (seat : ℕ) (known : principals s ≡ serials names) (x : ℕ) where
  pub tell_done : (over : ℕ) → ByEffect s s next names retired seat (graph_seen s next names retired) x (effect.Tells over) (Ok (reply.Text (text_of (held s next) over)))
  tell_done over = record {
    room = needs_none (graph_seen s next names retired) (free_slots s) s.free_cells (effect.Tells over) refl (λ u. u);
    replied = refl;
    graph = refl;
    pending = refl;
    agents = refl;
    acted = acted_same s s refl;
    listed = known;
    slots = omega arith;
    cells = refl;
  }

  pub list_done : (at : ℕ) → ByEffect s s next names retired seat (graph_seen s next names retired) x (effect.Lists at) (Ok (reply.Edges (edges_of (held s next) at)))
  list_done at = record {
    room = needs_none (graph_seen s next names retired) (free_slots s) s.free_cells (effect.Lists at) refl (λ u. u);
    replied = ap (λ es. reply.Edges es) (sym (edges_seen s next next names retired at));
    graph = refl;
    pending = refl;
    agents = refl;
    acted = acted_same s s refl;
    listed = known;
    slots = omega arith;
    cells = refl;
  }

  pub denied_carried : (c : Command) (why : Cause) → denial (graph_seen s next names retired) x c ≡ Some why → CarriedIn (graph_seen s next names retired) (graph_seen s next names retired) s s seat x c (denied (rule_of c) why)
  denied_carried c why is = record {
    decided = (refl, is);
    replied = refl;
    graph = refl;
    pending = refl;
    agents = refl;
    acted = acted_same s s refl;
    principals = known;
    slots = omega arith;
    cells = refl;
  }

-- a vertex with a name brings one that has to be copied
pub copies_name : (k : Kind) (α : Letters) (name : Option (List ℕ)) → is_some name ≡ true → copies (effect.Makes k α name) ≡ true
copies_name k α None is = absurd (cc is)
copies_name k α (Some name) is = refl
