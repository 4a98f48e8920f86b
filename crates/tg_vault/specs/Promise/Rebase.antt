-- what a rebase leaves of a vault: what is live in the graph of its history, as the opening graph of another
use Rattle.std.specs.Prelude.{◌≡◌, ℕ, true, List, [], ◌∷◌, length, Some, None}
use Rattle.tg_graph.specs.Promise.Fullness.{Limits}
use Rattle.tg_graph.specs.Promise.Protection.{Agree, IsRestriction, Live, Protection, IsGraph, IsVertex, is_active}
use Rattle.tg_graph.specs.Promise.Rules.{next_graph, reply_of}
use Rattle.tg_collect.specs.declared.note.Phase.TheVariants.{Idle}
use Rattle.tg_collect.specs.Promise.Readings.{IsParkedIn, phase}
use Rattle.tg_vault.specs.declared.entry.Entry.{Entry}
use Rattle.tg_vault.specs.declared.rebase.Past.{Past}
use Rattle.tg_vault.specs.declared.rebase.Rebased.{Rebased}
use Rattle.tg_vault.specs.declared.rebase.Rebased.TheVariants as rebased
use Rattle.tg_collect.specs.declared.note.Swept.{Swept}
use Rattle.tg_vault.specs.Promise.History.{Legal}
use Rattle.tg_vault.specs.Promise.World.{IsLeastInUse, NobodySits}
use Rattle.tg_vault.specs.Promise.Contents.{Contents, graph_now, held_now, moment, IsRoot}
use Rattle.tg_vault.specs.Promise.Cycles.{IsCycle}

-- three cycles of the collector, one after another
pub record ThreeCycles (v w : Contents) : Type 0 where
  pub first : Contents
  pub second : Contents
  pub one : Swept
  pub two : Swept
  pub three : Swept
  pub begins : IsCycle v one first
  pub goes_on : IsCycle first two second
  pub ends : IsCycle second three w

-- the entries have the same replies from one graph on as from the other
abbrev pub RepliedAlike : Protection → Protection → List Entry → Type 0
RepliedAlike G H [] = Unit {0}
RepliedAlike G H (e ∷ es) =
    (reply_of G e.actor e.command e.outcome ≡ reply_of H e.actor e.command e.outcome)
    × RepliedAlike (next_graph G e.actor e.command e.outcome) (next_graph H e.actor e.command e.outcome) es

-- a history that is legal from a graph, and the graph that it leads to from another, of which the first one is a
-- restriction: it is legal from there too, with the same replies, and leads to a restriction again
pub record IsLegalFrom (limits : Limits) (G : Protection) (opening H : Protection) (entries : List Entry) : Type 0 where
  pub whole : Protection
  pub legal : Legal limits G entries whole
  pub stays : IsRestriction whole H (IsVertex H)
  pub replies : RepliedAlike G opening entries

-- the new opening graph is the graph of the history restricted to what is live in it. It agrees with that graph for each
-- principal, and each history that is legal from it is legal from that graph, with the same replies, and leads to a
-- restriction of what it leads to there (so rebases may follow one another). The store is as three cycles leave it, under
-- the same key, and all that it holds is the opening graph
pub record IsRebased (v w : Contents) : Type 0 where
  pub opening : IsRestriction (graph_now v) w.opening (Live (graph_now v) (IsRoot (moment v).world))
  pub graph : IsGraph w.opening
  pub agrees : (x : ℕ) → is_active (graph_now v) x ≡ true → Agree (graph_now v) w.opening x
  pub legal : (entries : List Entry) (H : Protection) → Legal w.limits w.opening entries H → IsLegalFrom v.limits (graph_now v) w.opening H entries
  pub names : w.names ≡ v.names
  pub limits : w.limits ≡ v.limits
  pub seats : w.seats ≡ v.seats
  pub history : w.history ≡ []
  pub cycled : Contents
  pub cycles : ThreeCycles v cycled
  pub store : w.store ≡ cycled.store
  pub key : w.store.key ≡ v.store.key
  pub held : held_now w ≡ w.opening
  pub unparked : (x : ℕ) → IsParkedIn w.store x → ⊥
  pub phase : phase w.store ≡ Idle

abbrev pub Rebases : Contents → Rebased → Type 0
Rebases v (rebased.Fresh w dropped) = NobodySits v.seats × (dropped ≡ length v.history) × IsRebased v w
Rebases v (rebased.Seated w seat) = (w ≡ v) × IsLeastInUse v.seats seat
Rebases v (rebased.NoMemory w) = NobodySits v.seats × ThreeCycles v w × (w.history ≡ v.history) × (w.opening ≡ v.opening)

abbrev pub IsNone : Past → Type 0
IsNone past = (past.history.items ≡ []) × (past.opening ≡ None)

-- what a rebase hands over: the whole history and the opening graph if the vault is fresh, otherwise nothing
abbrev pub HandsOver : Contents → Rebased → Past → Type 0
HandsOver v (rebased.Fresh w dropped) past = (past.history.items ≡ v.history) × (past.opening ≡ Some v.opening)
HandsOver v (rebased.Seated w seat) past = IsNone past
HandsOver v (rebased.NoMemory w) past = IsNone past
