-- worlds, and the answers that each event may have in one
use Rattle.std.specs.Prelude.{◌≡◌, ◌↔◌, ◌<◌, ◌≤◌, ℕ, ◌+◌, Bool, true, if◌then◌else◌, not, nat_lt, List, [], ◌∷◌, ◌++◌, length, slice_index_or, slice_set, Option, Some, None, is_some}
use Rattle.tg_rights.specs.declared.limits.TheConstants.{SEATS}
use Rattle.tg_rights.specs.declared.command.Command.{Command}
use Rattle.tg_rights.specs.declared.outcome.Outcome.{Outcome}
use Rattle.tg_rights.specs.declared.outcome.Outcome.TheVariants as outcome
use Rattle.tg_rights.specs.declared.outcome.Which.TheVariants as which
use Rattle.tg_rights.specs.declared.outcome.Reply.{Reply}
use Rattle.tg_graph.specs.Promise.Protection.{Protection, named}
use Rattle.tg_graph.specs.Promise.Terms as effect
use Rattle.tg_graph.specs.Promise.Terms.{Does, terms}
use Rattle.tg_graph.specs.Promise.Rules.{Allowed, is_create, last_serial, next_graph, reply_of}
use Rattle.tg_vault.specs.declared.entry.Entry.{Entry}
use Rattle.tg_vault.specs.declared.event.SeatFault.{SeatFault}
use Rattle.tg_vault.specs.declared.event.SeatFault.TheVariants as seat_fault
use Rattle.tg_vault.specs.declared.event.AskFault.{AskFault}
use Rattle.tg_vault.specs.declared.event.AskFault.TheVariants as ask_fault
use Rattle.tg_vault.specs.declared.event.Event.{Event}
use Rattle.tg_vault.specs.declared.event.Event.TheVariants as event
use Rattle.tg_vault.specs.declared.event.Answer.{Answer}
use Rattle.tg_vault.specs.declared.event.Answer.TheVariants as answer
use Rattle.tg_graph.specs.Promise.Fullness.{Limits, Permitted}

-- what the events change
pub record World : Type 0 where
  pub graph : Protection
  -- who sits on each seat that is in use: a principal, or one who has retired
  pub seats : List (Option ℕ)
  -- for whom each seat acts, if it acts for another
  pub agents : List (Option ℕ)
  -- the pending target of each seat that has one
  pub pending : List (Option ℕ)
  -- the slots that are not free
  pub used : ℕ

-- a world, and the entries given so far
pub record Moment : Type 0 where
  pub world : World
  pub history : List Entry

-- the table's entry for a seat
abbrev pub at_seat : List (Option ℕ) → ℕ → Option ℕ
at_seat table seat = slice_index_or table seat None

-- nobody has a seat
abbrev pub NobodySits : List (Option ℕ) → Type 0
NobodySits seats = (seat : ℕ) → at_seat seats seat ≡ None

-- the least seat that somebody has
pub record IsLeastInUse (seats : List (Option ℕ)) (seat : ℕ) : Type 0 where
  pub within : seat < SEATS
  pub taken : is_some (at_seat seats seat) ≡ true
  pub least : (k : ℕ) → k < seat → at_seat seats k ≡ None

-- the actor of a seat's next command: its agent, or else its principal
abbrev pub acting : (agent principal : Option ℕ) → Option ℕ
acting None principal = principal
acting (Some agent) principal = Some agent

abbrev pub actor_at : World → ℕ → Option ℕ
actor_at w seat = acting (at_seat w.agents seat) (at_seat w.seats seat)

-- the first fault of each call, if it has one
module _ (w : World) (seat : ℕ) where
  abbrev pub no_seat : Bool
  no_seat = not (nat_lt seat SEATS)

  abbrev pub in_use : Bool
  in_use = is_some (at_seat w.seats seat)

  abbrev pub has_target : Bool
  has_target = is_some (at_seat w.pending seat)

  abbrev pub hello_fault : List ℕ → Option SeatFault
  hello_fault name =
      if no_seat then Some seat_fault.NoSeat else if in_use then Some seat_fault.Bound else if is_some (named w.graph name) then None else Some seat_fault.NoPrincipal

  abbrev pub bye_fault : Option SeatFault
  bye_fault = if no_seat then Some seat_fault.NoSeat else if in_use then (if has_target then Some seat_fault.Busy else None) else Some seat_fault.NoActor

  abbrev pub shade_fault : Option SeatFault
  shade_fault = if no_seat then Some seat_fault.NoSeat else if in_use then None else Some seat_fault.NoActor

  abbrev pub ask_refusal : Option AskFault
  ask_refusal = if no_seat then Some ask_fault.NoSeat else if in_use then (if has_target then Some ask_fault.Busy else None) else Some ask_fault.NoActor

  -- out of memory comes after the seat's faults
  abbrev pub IsAskFault : AskFault → Type 0
  IsAskFault ask_fault.OutOfMemory = ask_refusal ≡ None
  IsAskFault fault = ask_refusal ≡ Some fault

-- the pending target that an effect leaves, even if the edge was there already
abbrev pub new_target : Protection → Does → Option ℕ
new_target G (effect.Joins from α to) = Some to
new_target G (effect.Makes k α name) = Some G.next
new_target G (effect.Acts agent) = agent
new_target G _ = None

-- the pending target that a command of x leaves
abbrev pub target_of : Protection → ℕ → Command → Outcome → Option ℕ
target_of G x c outcome.Allowed = new_target G (terms x c).does
target_of G x c _ = None

abbrev pub with_pending : List (Option ℕ) → ℕ → Option ℕ → List (Option ℕ)
with_pending pending seat None = pending
with_pending pending seat (Some target) = slice_set pending seat (Some target)

-- for whom the seats act once an effect was carried out at one of them
abbrev pub new_agents : List (Option ℕ) → (seat : ℕ) → Does → List (Option ℕ)
new_agents agents seat (effect.Acts agent) = slice_set agents seat agent
new_agents agents seat _ = agents

-- for whom the seats act after a command of x
abbrev pub agents_after : List (Option ℕ) → (seat x : ℕ) → Command → Outcome → List (Option ℕ)
agents_after agents seat x c outcome.Allowed = new_agents agents seat (terms x c).does
agents_after agents seat x c _ = agents

-- an allowed create or enrol takes a slot
abbrev pub slots_taken : ℕ → Command → Outcome → ℕ
slots_taken x c outcome.Allowed = if is_create x c then 1 else 0
slots_taken x c _ = 0

-- the world, and the entries, after an entry
abbrev pub entered : Moment → Entry → Moment
entered m e = record {
  world = record m.world {
    graph = next_graph m.world.graph e.actor e.command e.outcome;
    agents = agents_after m.world.agents e.seat e.actor e.command e.outcome;
    pending = with_pending m.world.pending e.seat (target_of m.world.graph e.actor e.command e.outcome);
    used = m.world.used + slots_taken e.actor e.command e.outcome;
  };
  history = m.history ++ e ∷ [];
}

-- full for slots exactly if the rules allow a create or an enrol, a serial is left for it and each slot is in use
abbrev pub ExactSlots : Limits → World → ℕ → Command → Outcome → Type 0
ExactSlots limits w x c o =
    (o ≡ outcome.Full which.Slots) ↔ ((is_create x c ≡ true) × Allowed w.graph x c × (w.graph.next ≤ last_serial) × (w.used ≡ limits.slots))

-- the command of the actor at the seat is entered with this outcome
pub record Enters (limits : Limits) (m : Moment) (seat actor : ℕ) (c : Command) (reply : Reply) (n : Moment) : Type 0 where
  pub outcome : Outcome
  pub permitted : Permitted limits m.world.graph actor c outcome
  pub exact : ExactSlots limits m.world actor c outcome
  pub replied : reply ≡ reply_of m.world.graph actor c outcome
  pub left : n ≡ entered m (record { seat = seat; actor = actor; command = c; outcome = outcome })

-- the event may have this answer, and lead from one moment to the next
abbrev pub Step : Limits → Moment → Event → Answer → Moment → Type 0
Step limits m (event.Hello seat name) (answer.Hello x) n =
    (hello_fault m.world seat name ≡ None) × (named m.world.graph name ≡ Some x) × (n ≡ record m { world = record m.world { seats = slice_set m.world.seats seat (Some x) } })
Step limits m (event.Hello seat name) (answer.Seat fault) n = (hello_fault m.world seat name ≡ Some fault) × (n ≡ m)
Step limits m (event.Bye seat) answer.Bye n = (bye_fault m.world seat ≡ None) × (n ≡ record m { world = record m.world { seats = slice_set m.world.seats seat None; agents = slice_set m.world.agents seat None } })
Step limits m (event.Bye seat) (answer.Seat fault) n = (bye_fault m.world seat ≡ Some fault) × (n ≡ m)
Step limits m (event.Ask seat c) (answer.Asked number reply) n =
    (ask_refusal m.world seat ≡ None) × (number ≡ length m.history)
    × ((actor : ℕ) × (actor_at m.world seat ≡ Some actor) × Enters limits m seat actor c reply n)
Step limits m (event.Ask seat c) (answer.Ask fault) n = IsAskFault m.world seat fault × (n ≡ m)
Step limits m (event.Shade seat) (answer.Shaded target) n =
    (shade_fault m.world seat ≡ None) × (target ≡ at_seat m.world.pending seat) × (n ≡ record m { world = record m.world { pending = slice_set m.world.pending seat None } })
Step limits m (event.Shade seat) (answer.Seat fault) n = (shade_fault m.world seat ≡ Some fault) × (n ≡ m)
Step limits m event.Collect (answer.Noted note) n = (used : ℕ) × (m.world.used ≡ used + note.freed) × (n ≡ record m { world = record m.world { used = used } })
Step limits m _ _ n = ⊥

-- the events may have these answers, one after another
abbrev pub Run : Limits → Moment → List Event → List Answer → Moment → Type 0
Run limits m [] [] n = n ≡ m
Run limits m (e ∷ es) (a ∷ answers) n = (between : Moment) × Step limits m e a between × Run limits between es answers n
Run limits m _ _ n = ⊥
