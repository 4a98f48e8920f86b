-- definitions in other words: what follows for whoever reads an answer, a history or a vault
use Rattle.std.specs.Prelude.{◌≡◌, ◌≢◌, ◌≤◌, ◌⊎◌, ◌↔◌, ℕ, ◌+◌, true, false, List, [], ◌∷◌, ◌++◌, length, Option, Some}
use Rattle.tg_rights.specs.declared.command.Command.{Command}
use Rattle.tg_rights.specs.declared.command.Command.TheVariants as command
use Rattle.tg_rights.specs.declared.command.Rule.{Rule}
use Rattle.tg_rights.specs.declared.outcome.Cause.TheVariants as cause
use Rattle.tg_rights.specs.declared.outcome.Outcome.TheVariants as outcome
use Rattle.tg_rights.specs.declared.outcome.Reply.{Reply}
use Rattle.tg_rights.specs.declared.outcome.Reply.TheVariants as replies
use Rattle.tg_rights.specs.declared.outcome.Which.TheVariants as which
use Rattle.tg_rights.specs.Promise.Letters.{Letters, Right, has, read}
use Rattle.tg_graph.specs.declared.config.Config.{Config}
use Rattle.tg_graph.specs.Promise.EachCommand.{MayUse}
use Rattle.tg_graph.specs.Promise.Fullness.{Limits, vertex_count, edge_count}
use Rattle.tg_graph.specs.Promise.Protection.{Agree, IsGraph, Live, Protection, is_active, label, named}
use Rattle.tg_graph.specs.Promise.Rules.{Allowed, is_create, last_serial, next_graph, reply_of, text_of}
use Rattle.tg_collect.specs.declared.note.Note.{Note}
use Rattle.tg_collect.specs.Promise.Readings.{IsParkedIn, free_slots, parked_count}
use Rattle.tg_vault.specs.declared.entry.Entry.{Entry}
use Rattle.tg_vault.specs.declared.event.Event.{Event}
use Rattle.tg_vault.specs.declared.event.Event.TheVariants as event
use Rattle.tg_vault.specs.declared.event.Answer.{Answer}
use Rattle.tg_vault.specs.declared.event.Answer.TheVariants as answer
use Rattle.tg_vault.specs.declared.event.SeatFault.{SeatFault}
use Rattle.tg_vault.specs.declared.rebase.Past.{Past}
use Rattle.tg_vault.specs.declared.rebase.Rebased.TheVariants as rebased
use Rattle.tg_vault.specs.declared.room.Room.{Room}
use Rattle.tg_vault.specs.declared.scene.Scene.{Scene}
use Rattle.tg_collect.specs.declared.note.Swept.{Swept}
use Rattle.tg_vault.specs.Promise.Agreement.{SameForAgreeing}
use Rattle.tg_vault.specs.Promise.Headline.{Headline, asked_in}
use Rattle.tg_vault.specs.Promise.History.{Legal, WasPrincipal, graph_of}
use Rattle.tg_vault.specs.Promise.World.{IsLeastInUse, Moment, Step, actor_at, at_seat, has_target, in_use, no_seat}
use Rattle.tg_vault.specs.Promise.Contents.{Contents, Fits, HasSlot, IsExact, IsFresh, IsRoot, graph_now, held_now, moment, StoreAnswer}
use Rattle.tg_vault.specs.Promise.Cycles.{IsBounded, IsComplete, IsCycle, ended_in, notes_in}
use Rattle.tg_vault.specs.Promise.Room.{IsRoom}
use Rattle.tg_vault.specs.Promise.Scenes.{IsScene}
use Rattle.tg_vault.specs.Promise.Rebase.{HandsOver, IsRebased, Rebases}

-- what the answers at a seat mean: a hello seats the principal of the name on a seat that nobody has; a bye and a command
-- are of somebody with no pending target; a command is entered with the next number, for the seat's actor, and replied to
-- by the rules, or as full once each slot is in use; a shade tells the target; and a note tells how many slots came free
pub record AnswersMean (limits : Limits) (m n : Moment) (seat : ℕ) : Type 0 where
  pub hello : (name : List ℕ) (x : ℕ) → Step limits m (event.Hello seat name) (answer.Hello x) n →
      (no_seat m.world seat ≡ false) × (in_use m.world seat ≡ false) × (named m.world.graph name ≡ Some x)
  pub bye : Step limits m (event.Bye seat) answer.Bye n → (no_seat m.world seat ≡ false) × (in_use m.world seat ≡ true) × (has_target m.world seat ≡ false)
  pub asked : (c : Command) (number : ℕ) (reply : Reply) → Step limits m (event.Ask seat c) (answer.Asked number reply) n →
      (e : Entry) × (n.history ≡ m.history ++ e ∷ []) × (number ≡ length m.history) × (actor_at m.world seat ≡ Some e.actor) × (reply ≡ reply_of m.world.graph e.actor c e.outcome)
  pub no_slot : (actor : ℕ) (c : Command) (number : ℕ) (reply : Reply) → Step limits m (event.Ask seat c) (answer.Asked number reply) n → actor_at m.world seat ≡ Some actor →
      Allowed m.world.graph actor c → is_create actor c ≡ true → m.world.graph.next ≤ last_serial → m.world.used ≡ limits.slots → reply ≡ replies.Full which.Slots
  pub shaded : (target : Option ℕ) → Step limits m (event.Shade seat) (answer.Shaded target) n → at_seat m.world.pending seat ≡ target
  pub noted : (note : Note) → Step limits m event.Collect (answer.Noted note) n → n.world.used + note.freed ≡ m.world.used

abbrev pub AnswersHaveMeanings : Type 0
AnswersHaveMeanings = (limits : Limits) (m n : Moment) (seat : ℕ) → AnswersMean limits m n seat

-- there is one least seat that somebody has
abbrev pub OneLeastSeat : Type 0
OneLeastSeat = (seats : List (Option ℕ)) (a b : ℕ) → IsLeastInUse seats a → IsLeastInUse seats b → a ≡ b

-- who begins a legal history is a principal; and who asks next from another seat is one, or was until the first entry
pub record ActorsMean (limits : Limits) (G : Protection) (e : Entry) : Type 0 where
  pub first : (es : List Entry) (H : Protection) → Legal limits G (e ∷ es) H → is_active G e.actor ≡ true
  pub next : (f : Entry) (es : List Entry) (H : Protection) → Legal limits G (e ∷ f ∷ es) H → f.seat ≢ e.seat → WasPrincipal (next_graph G e.actor e.command e.outcome) (e ∷ []) f.actor

abbrev pub ActorsHaveMeanings : Type 0
ActorsHaveMeanings = (limits : Limits) (G : Protection) (e : Entry) → ActorsMean limits G e

-- what is live is not parked
abbrev pub LiveIsNotParked : Type 0
LiveIsNotParked = (v : Contents) → Fits v → (x : ℕ) → Live (graph_now v) (IsRoot (moment v).world) x → IsParkedIn v.store x → ⊥

-- full for slots: each has a vertex that is held or parked; full for cells: there are as many edges; and a create is
-- refused if there is no slot
pub record FullMeans (old new : Contents) (x : IsExact old new) : Type 0 where
  pub slots : x.entry.outcome ≡ outcome.Full which.Slots → old.limits.slots ≡ vertex_count (held_now old) + parked_count old.store
  pub cells : x.entry.outcome ≡ outcome.Full which.Cells → old.limits.cells ≤ edge_count (graph_now old)
  pub no_slot : Allowed (graph_now old) x.entry.actor x.entry.command → is_create x.entry.actor x.entry.command ≡ true → (graph_now old).next ≤ last_serial → free_slots old.store ≡ 0 →
      x.entry.outcome ≡ outcome.Full which.Slots

abbrev pub FullHasMeaning : Type 0
FullHasMeaning = (old new : Contents) → Fits old → (x : IsExact old new) → FullMeans old new x

-- a new vault: each seat acts for itself, and after two cycles only what is live in its opening graph, or new, has a slot
pub record FreshMeans (c : Config) (v : Contents) : Type 0 where
  pub actors : (seat : ℕ) → actor_at (moment v).world seat ≡ at_seat v.seats seat
  pub complete : (w : Contents) (es : List Event) (note : Note) (answers : List Answer) → IsComplete v es (answer.Noted note ∷ answers) w → ended_in (answer.Noted note ∷ answers) ≡ 2 →
      (x : ℕ) → HasSlot w x → Live (graph_now v) (IsRoot (moment v).world) x ⊎ ((graph_now v).next ≤ x)

abbrev pub FreshHasMeaning : Type 0
FreshHasMeaning = (c : Config) (v : Contents) → IsFresh c v → FreshMeans c v

-- with one slot and one cell, one of any eight collector steps ends a cycle
abbrev pub EightStepsAreEnough : Type 0
EightStepsAreEnough =
    (old : Contents) (answers : List Answer) → IsBounded old answers → old.limits ≡ record { slots = 1; cells = 1 } → 8 ≤ length (notes_in answers) → 1 ≤ ended_in answers

-- with one slot and one cell, a cycle takes eight steps at most
abbrev pub CyclesAreShort : Type 0
CyclesAreShort = (old new : Contents) (swept : Swept) → IsCycle old swept new → old.limits ≡ record { slots = 1; cells = 1 } → swept.steps ≤ 8

-- a rebase: what is handed over is what is dropped; a principal has the rights that it had; and the next command is replied
-- to as without it; if memory is lacking, the graph of the history is what it was
pub record RebasedMeans (v w : Contents) : Type 0 where
  pub dropped : (count : ℕ) (past : Past) → Rebases v (rebased.Fresh w count) → HandsOver v (rebased.Fresh w count) past → length past.history.items ≡ count
  pub rights : IsRebased v w → (x y : ℕ) → is_active (graph_now v) x ≡ true → label (graph_now v) x y ≡ label w.opening x y
  pub replies : IsRebased v w → (e : Entry) (es : List Entry) (H : Protection) → Legal w.limits w.opening (e ∷ es) H →
      reply_of (graph_now v) e.actor e.command e.outcome ≡ reply_of w.opening e.actor e.command e.outcome
  pub no_memory : Rebases v (rebased.NoMemory w) → graph_now w ≡ graph_now v

abbrev pub RebasedHasMeaning : Type 0
RebasedHasMeaning = (v w : Contents) → RebasedMeans v w

-- what is free in a vault, and what a picture of it shows, is one
abbrev pub OneRoom : Type 0
OneRoom = (v : Contents) (r s : Room) → IsRoom v r → IsRoom v s → r ≡ s

abbrev pub OneScene : Type 0
OneScene =
    (v : Contents) (s t : Scene) → IsScene v s → IsScene v t →
    (s.names ≡ t.names) × (s.seats.items ≡ t.seats.items) × (s.free_slots ≡ t.free_slots) × (s.free_cells ≡ t.free_cells) × (s.phase ≡ t.phase)

-- a hello, granted or refused, leaves the room
pub record RoomStays (old new : Contents) (seat : ℕ) (name : List ℕ) (r : Room) : Type 0 where
  pub granted : (x : ℕ) → StoreAnswer old (event.Hello seat name) (answer.Hello x) new → new.limits ≡ old.limits → IsRoom new r
  pub refused : (fault : SeatFault) → StoreAnswer old (event.Hello seat name) (answer.Seat fault) new → IsRoom new r

abbrev pub HellosLeaveRoom : Type 0
HellosLeaveRoom = (old new : Contents) (seat : ℕ) (name : List ℕ) (r : Room) → IsRoom old r → RoomStays old new seat name r

-- an entry of a history that has the headline, and the graph that those before it leave: a read is carried out exactly if
-- its actor may read, and so is never full; and rights that a denial calls missing are not there
pub record EntryMeans (G : Protection) (e : Entry) : Type 0 where
  pub reads : (over : ℕ) → e.command ≡ command.Read over → (e.outcome ≡ outcome.Allowed) ↔ MayUse G e.actor read over
  pub missing : (rule : Rule) (β : Letters) (y z : ℕ) → e.outcome ≡ outcome.Denied rule (cause.Missing β y z) → (r : Right) → has β r ≡ true → has (label G y z) r ≡ false

-- such entries, and the numbers of the first two that are told, which go on from those told before
pub record HeadlineMeans (old : Contents) (answers : List Answer) (new : Contents) : Type 0 where
  pub entries : (front back : List Entry) (e : Entry) → new.history ≡ front ++ e ∷ back → EntryMeans (graph_of new.opening front) e
  pub numbers : (a b : ℕ) (p q : Reply) (rest : List (ℕ × Reply)) → asked_in answers ≡ (a, p) ∷ (b, q) ∷ rest → (a ≡ length old.history) × (b ≡ a + 1)

abbrev pub HeadlineHasMeaning : Type 0
HeadlineHasMeaning = (old : Contents) (es : List Event) (answers : List Answer) (new : Contents) → Headline old es answers new → HeadlineMeans old answers new

-- what is read is the text that it has in each graph which agrees with the vault's for the reader
abbrev pub ReadsTellNoMore : Type 0
ReadsTellNoMore =
    (old new : Contents) (answer : Reply) (same : SameForAgreeing old new answer) (over : ℕ) → same.entry.command ≡ command.Read over → same.entry.outcome ≡ outcome.Allowed →
    (H : Protection) → IsGraph H → Agree (graph_now old) H same.entry.actor → answer ≡ replies.Text (text_of H over)
