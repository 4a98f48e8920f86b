-- what a command does to a store, which decides it by what it holds
use Rattle.std.specs.Prelude.{◌≡◌, ◌≢◌, ◌<◌, ◌≤◌, ℕ, ◌+◌, Bool, true, false, cond, List, [], length, Option, Some, None, Result, Ok, Err}
use Rattle.tg_rights.specs.Promise.Letters.{Letters, joined, without}
use Rattle.tg_rights.specs.declared.limits.TheConstants.{MAX_PRINCIPALS}
use Rattle.tg_rights.specs.declared.kind.Kind.{Kind}
use Rattle.tg_rights.specs.declared.kind.Kind.TheVariants.{Subject}
use Rattle.tg_rights.specs.declared.command.Command.{Command}
use Rattle.tg_rights.specs.declared.command.Rule.{Rule}
use Rattle.tg_rights.specs.declared.outcome.Cause.{Cause}
use Rattle.tg_rights.specs.declared.outcome.Which.{Which}
use Rattle.tg_rights.specs.declared.outcome.Which.TheVariants as which
use Rattle.tg_rights.specs.declared.outcome.Outcome.{Outcome}
use Rattle.tg_rights.specs.declared.outcome.Outcome.TheVariants as outcome
use Rattle.tg_rights.specs.declared.outcome.Reply.{Reply}
use Rattle.tg_rights.specs.declared.outcome.Reply.TheVariants as reply
use Rattle.tg_graph.specs.Promise.Protection.{with_member, Protection, label}
use Rattle.tg_graph.specs.Promise.Terms as effect
use Rattle.tg_graph.specs.Promise.Terms.{Does, terms}
use Rattle.tg_graph.specs.Promise.Rules.{Allowed, Denied, is_new, last_serial, next_graph, reply_of}
use Rattle.tg_graph.specs.Promise.Fullness.{edges_at}
use Rattle.tg_collect.specs.Promise.Stored.{Stored}
use Rattle.tg_collect.specs.Promise.Readings.{IsEdgeIn, agents, pending, principals, free_slots}
use Rattle.tg_collect.specs.Promise.Sessions.{EdgeStored, VertexStored, PrincipalStored, Acted}
use Rattle.tg_vault.specs.declared.carry_out.State.{State}
use Rattle.tg_vault.specs.Promise.World.{agents_after, target_of, with_pending, slots_taken}
use Rattle.tg_vault.specs.Promise.Seen.{serials}
use Rattle.tg_vault.specs.Inner.Seen.{seen_in}
use Rattle.tg_vault.specs.Promise.Contents.{IsUsedUp}

-- how a command of x is decided: denied if the rules deny it, else full if something is used up, else allowed
abbrev pub Decided : Protection → (free_slots free_cells : ℕ) → ℕ → Command → Outcome → Type 0
Decided G free_slots free_cells x c outcome.Allowed = Allowed G x c × ((w : Which) → IsUsedUp G free_slots free_cells (terms x c).does w → ⊥)
Decided G free_slots free_cells x c (outcome.Denied rule cause) = Denied G x c rule cause
Decided G free_slots free_cells x c (outcome.Full w) = Allowed G x c × IsUsedUp G free_slots free_cells (terms x c).does w

-- the new serial of an effect, and of a command of x
abbrev pub serial_given : ℕ → Does → Option ℕ
serial_given next d = cond (is_new d) (Some next) None

abbrev pub new_serial : ℕ → ℕ → Command → Outcome → Option ℕ
new_serial next x c outcome.Allowed = serial_given next (terms x c).does
new_serial next x c (outcome.Denied rule cause) = None
new_serial next x c (outcome.Full w) = None

-- the number of free cells changes by the edge that an effect of x makes or takes away
abbrev pub EdgeMoves : Protection → (before after : ℕ) → ℕ → Does → Type 0
EdgeMoves G before after x (effect.Joins from α to) = after + edges_at (joined (label G from to) α) ≡ before + edges_at (label G from to)
EdgeMoves G before after x (effect.Makes k α name) = before ≡ after + 1
EdgeMoves G before after x (effect.Drops α over) = after + edges_at (without (label G x over) α) ≡ before + edges_at (label G x over)
EdgeMoves G before after x (effect.Rewrites over text) = after ≡ before
EdgeMoves G before after x (effect.Tells over) = after ≡ before
EdgeMoves G before after x (effect.Lists at) = after ≡ before
EdgeMoves G before after x effect.Retires = after ≡ before
EdgeMoves G before after x (effect.Acts agent) = after ≡ before

abbrev pub CellsMoved : Protection → (before after : ℕ) → ℕ → Command → Outcome → Type 0
CellsMoved G before after x c outcome.Allowed = EdgeMoves G before after x (terms x c).does
CellsMoved G before after x c (outcome.Denied rule cause) = after ≡ before
CellsMoved G before after x c (outcome.Full w) = after ≡ before

-- whether an effect copies a text, a name or a list of edges, or adds to those who have retired, and so may need memory;
-- room for vertices, edges and principals was made when the store was opened
abbrev pub copies : Does → Bool
copies (effect.Joins from α to) = false
copies (effect.Makes k α None) = false
copies (effect.Makes k α (Some name)) = true
copies (effect.Drops α over) = false
copies (effect.Rewrites over text) = true
copies (effect.Tells over) = true
copies (effect.Lists at) = true
copies effect.Retires = true
copies (effect.Acts agent) = false

-- how a command was decided, and the reply, which follows from that and the graph
pub record Answered : Type 0 where
  pub outcome : Outcome
  pub reply : Reply

abbrev pub answered : Outcome → Reply → Answered
answered decided told = record { outcome = decided; reply = told }

-- the reply where a call returns that it is done, or the serial of what it made
abbrev pub done : {U : Type 0} → Result U Which → Result Reply Which
done (Ok u) = Ok reply.Done
done (Err w) = Err w

abbrev pub created : Result ℕ Which → Result Reply Which
created (Ok serial) = Ok (reply.Created serial)
created (Err w) = Err w

-- the outcome with the reply of a command that was carried out, that may be full, and that its rule denies
abbrev pub allowed : Reply → Answered
allowed told = answered outcome.Allowed told

abbrev pub settled : Result Reply Which → Answered
settled (Ok told) = allowed told
settled (Err w) = answered (outcome.Full w) (reply.Full w)

abbrev pub denied : Rule → Cause → Answered
denied rule cause = answered (outcome.Denied rule cause) (reply.Denied rule cause)

-- the command of x, from the seat, was decided in the graph G, which is what is held and kept, and carried out in the
-- store, with this outcome and the reply that follows from it; K is what is held and kept then
pub record CarriedIn (G K : Protection) (s t : Stored) (seat x : ℕ) (c : Command) (a : Answered) : Type 0 where
  pub decided : Decided G (free_slots s) s.free_cells x c a.outcome
  pub replied : a.reply ≡ reply_of G x c a.outcome
  pub graph : K ≡ next_graph G x c a.outcome
  pub pending : pending t ≡ with_pending (pending s) seat (target_of G x c a.outcome)
  pub agents : agents t ≡ agents_after (agents s) seat x c a.outcome
  pub acted : Acted s t (new_serial G.next x c a.outcome) (target_of G x c a.outcome)
  pub principals : principals t ≡ serials K.names
  pub slots : free_slots s ≡ free_slots t + slots_taken x c a.outcome
  pub cells : CellsMoved G s.free_cells t.free_cells x c a.outcome

abbrev pub CarriedOut : (old new : State) → (seat x : ℕ) → Command → Answered → Type 0
CarriedOut old new seat x c a = CarriedIn (seen_in old) (seen_in new) old.store new.store seat x c a

-- an edge from x to y gained rights, or no cell was free for it
abbrev pub Joined : (v w : Stored) → (seat x y : ℕ) → Letters → Result Reply Which → Type 0
Joined v w seat x y rights (Ok reply.Done) = EdgeStored v w seat x y rights × Acted v w None (Some y)
Joined v w seat x y rights (Err which.Cells) = (w ≡ v) × (v.free_cells ≡ 0) × (IsEdgeIn v x y → ⊥)
Joined v w seat x y rights _ = ⊥

-- what a new vertex needs first and is used up
abbrev pub NoRoom : Stored → ℕ → Which → Type 0
NoRoom v next which.Serials = last_serial < next
NoRoom v next which.Slots = (next ≤ last_serial) × (free_slots v ≡ 0)
NoRoom v next which.Cells = (next ≤ last_serial) × (free_slots v ≢ 0) × (v.free_cells ≡ 0)

-- there is room for a principal, if there is to be another
abbrev pub HasPlace : List ℕ → Option (List ℕ) → Type 0
HasPlace principals None = Unit {0}
HasPlace principals (Some name) = length principals < MAX_PRINCIPALS

-- a vertex was stored; with a name it is a principal
abbrev pub Stores : (v w : Stored) → (seat x serial : ℕ) → Kind → Letters → Option (List ℕ) → Type 0
Stores v w seat x serial kind rights None = VertexStored v w seat x serial kind [] rights
Stores v w seat x serial kind rights (Some name) = (kind ≡ Subject) × PrincipalStored v w seat x serial [] rights

-- a vertex was added, with the rights of x over it, and to the list of the active principals if it has a name; or there
-- was no room for it
abbrev pub Made : (old new : State) → (seat x : ℕ) → Kind → Letters → Option (List ℕ) → Result Reply Which → Type 0
Made old new seat x kind rights name (Ok (reply.Created serial)) =
    (serial ≡ old.next) × (old.next ≤ last_serial) × (new.next ≡ old.next + 1) × (new.names ≡ with_member old.names name old.next) × (new.retired ≡ old.retired)
    × Stores old.store new.store seat x old.next kind rights name × Acted old.store new.store (Some old.next) (Some old.next)
Made old new seat x kind rights name (Err full) = (new ≡ old) × NoRoom old.store old.next full
Made old new seat x kind rights name _ = ⊥
