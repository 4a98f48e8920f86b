-- the reading of lines in other words: what each result says of the line
use Rattle.std.specs.Prelude.{◌≡◌, ◌<◌, ◌≤◌, ◌↔◌, ℕ, List, [], ◌∷◌, ◌++◌, length, true, Option, Some, None, is_some, Result, Ok, Err, codes}
use Rattle.serde_json.specs.Data.{Data}
use Rattle.serde_json.specs.Find.{get, as_object}
use Rattle.tg_lists.specs.Promise.Membership.{Contains}
use Rattle.tg_rights.specs.Promise.Letters.{none, grant_alone, read_alone, take_alone, write_alone}
use Rattle.tg_rights.specs.declared.kind.Kind.TheVariants as kind
use Rattle.tg_rights.specs.declared.command.Command.TheVariants as command
use Rattle.tg_graph.specs.declared.derivation.Step.{Step}
use Rattle.tg_graph.specs.declared.derivation.Goal.{Goal}
use Rattle.tg_vault.specs.declared.event.Event.TheVariants as event
use Rattle.tg_wire.specs.Promise.Ops.{command_form, op_form, stepped}
use Rattle.tg_wire.specs.Promise.Configs.{Opening, goal_in, opening_in}
use Rattle.tg_wire.specs.Promise.Reading.{json_of, keys_in}
use Rattle.tg_wire.specs.Promise.Lines.{op_in, rule_in, line_extras, opening_extras, line_of, step_of, goal_of, config_of}
use Rattle.tg_wire.specs.declared.line.Line.{Line}
use Rattle.tg_wire.specs.declared.line.Line.TheVariants.{Act, Cycle}
use Rattle.tg_wire.specs.declared.fault.WireFault.{WireFault}
use Rattle.tg_wire.specs.declared.fault.WireFault.TheVariants as fault

-- each of the names is a key of the object, and: one of them is not
abbrev pub HasAll : List (List ℕ) → Data → Type 0
HasAll names d = (name : List ℕ) → Contains names name → is_some (get name d) ≡ true

abbrev pub LacksOne : List (List ℕ) → Data → Type 0
LacksOne names d = (name : List ℕ) × Contains names name × (get name d ≡ None)

-- each key of the object is one of the names, and: one of them is not
abbrev pub KnowsAll : List (List ℕ) → Data → Type 0
KnowsAll names d = (key : List ℕ) → Contains (keys_in d) key → Contains names key

abbrev pub HasUnknown : List (List ℕ) → Data → Type 0
HasUnknown names d = (key : List ℕ) × Contains (keys_in d) key × (Contains names key → ⊥)

-- what a result says of an object with these required fields, these other fields and this value
abbrev pub Says : {A : Type 0} → List (List ℕ) → List (List ℕ) → (Data → Option A) → Data → Result A WireFault → Type 0
Says needed others value d (Ok x) = HasAll needed d × (value d ≡ Some x) × KnowsAll (others ++ needed) d
Says needed others value d (Err fault.MissingField) = LacksOne needed d
Says needed others value d (Err fault.BadField) = HasAll needed d × (value d ≡ None)
Says needed others value d (Err fault.UnknownField) = HasAll needed d × (is_some (value d) ≡ true) × HasUnknown (others ++ needed) d
Says needed others value d (Err fault.NotJson) = ⊥
Says needed others value d (Err fault.NotObject) = ⊥
Says needed others value d (Err fault.NoOp) = ⊥
Says needed others value d (Err fault.TooLong) = ⊥
Says needed others value d (Err fault.OutOfMemory) = ⊥

-- the same for an object that has to name an op
abbrev pub SaysByOp : {O A : Type 0} → (Data → Option O) → (O → Data → Result A WireFault → Type 0) → Data → Result A WireFault → Type 0
SaysByOp {O} op says d (Ok x) = (o : O) × (op d ≡ Some o) × says o d (Ok x)
SaysByOp op says d (Err fault.NoOp) = op d ≡ None
SaysByOp {O} op says d (Err fault.MissingField) = (o : O) × (op d ≡ Some o) × says o d (Err fault.MissingField)
SaysByOp {O} op says d (Err fault.BadField) = (o : O) × (op d ≡ Some o) × says o d (Err fault.BadField)
SaysByOp {O} op says d (Err fault.UnknownField) = (o : O) × (op d ≡ Some o) × says o d (Err fault.UnknownField)
SaysByOp op says d (Err fault.NotJson) = ⊥
SaysByOp op says d (Err fault.NotObject) = ⊥
SaysByOp op says d (Err fault.TooLong) = ⊥
SaysByOp op says d (Err fault.OutOfMemory) = ⊥

-- the line is short enough, and is this object
abbrev pub IsObject : List ℕ → Data → Type 0
IsObject bytes d = (length bytes ≤ 16384) × (json_of bytes ≡ Some d) × (is_some (as_object d) ≡ true)

-- what a result says of a line, if it says this of an object
abbrev pub SaysOfLine : {A : Type 0} → (Data → Result A WireFault → Type 0) → List ℕ → Result A WireFault → Type 0
SaysOfLine says bytes (Ok x) = (d : Data) × IsObject bytes d × says d (Ok x)
SaysOfLine says bytes (Err fault.TooLong) = 16384 < length bytes
SaysOfLine says bytes (Err fault.NotJson) = (length bytes ≤ 16384) × (json_of bytes ≡ None)
SaysOfLine says bytes (Err fault.NotObject) = (d : Data) × (length bytes ≤ 16384) × (json_of bytes ≡ Some d) × (as_object d ≡ None)
SaysOfLine says bytes (Err fault.NoOp) = (d : Data) × IsObject bytes d × says d (Err fault.NoOp)
SaysOfLine says bytes (Err fault.MissingField) = (d : Data) × IsObject bytes d × says d (Err fault.MissingField)
SaysOfLine says bytes (Err fault.BadField) = (d : Data) × IsObject bytes d × says d (Err fault.BadField)
SaysOfLine says bytes (Err fault.UnknownField) = (d : Data) × IsObject bytes d × says d (Err fault.UnknownField)
SaysOfLine says bytes (Err fault.OutOfMemory) = ⊥

-- the result for an event line is this one exactly if this says so of the line
abbrev pub LinesSay : Type 0
LinesSay = (bytes : List ℕ) (r : Result Line WireFault) → (line_of bytes ≡ r) ↔ SaysOfLine (SaysByOp op_in (λ op. Says (op_form op).fields line_extras (op_form op).value)) bytes r

abbrev pub StepsSay : Type 0
StepsSay = (bytes : List ℕ) (r : Result Step WireFault) → (step_of bytes ≡ r) ↔ SaysOfLine (SaysByOp rule_in (λ rule. Says (stepped (command_form rule)).fields (codes "op" ∷ []) (stepped (command_form rule)).value)) bytes r

abbrev pub GoalsSay : Type 0
GoalsSay = (bytes : List ℕ) (r : Result Goal WireFault) → (goal_of bytes ≡ r) ↔ SaysOfLine (Says (codes "from" ∷ codes "to" ∷ codes "rights" ∷ []) [] goal_in) bytes r

abbrev pub ConfigsSay : Type 0
ConfigsSay = (bytes : List ℕ) (r : Result Opening WireFault) → (config_of bytes ≡ r) ↔ SaysOfLine (Says (codes "principals" ∷ []) opening_extras opening_in) bytes r

-- worked lines: a good one for each op, with numbers that differ, and refused ones
pub record WorkedLines : Type 0 where
  pub hello : line_of (codes "{\"op\":\"hello\",\"name\":\"alice\",\"seat\":4}") ≡ Ok (Act (event.Hello 4 (codes "alice")))
  pub take : line_of (codes "{\"op\":\"take\",\"rights\":\"w\",\"over\":3,\"from\":5,\"seat\":1}") ≡ Ok (Act (event.Ask 1 (command.Take write_alone 3 5)))
  pub grant : line_of (codes "{\"op\":\"grant\",\"rights\":\"r\",\"over\":3,\"to\":5}") ≡ Ok (Act (event.Ask 0 (command.Grant read_alone 3 5)))
  pub document : line_of (codes "{\"op\":\"create\",\"kind\":\"document\",\"rights\":\"g\"}") ≡ Ok (Act (event.Ask 0 (command.Create kind.Document grant_alone)))
  pub subject : line_of (codes "{\"op\":\"create\",\"kind\":\"subject\",\"rights\":\"t\"}") ≡ Ok (Act (event.Ask 0 (command.Create kind.Subject take_alone)))
  pub remove : line_of (codes "{\"op\":\"remove\",\"rights\":\"w\",\"over\":6}") ≡ Ok (Act (event.Ask 0 (command.Remove write_alone 6)))
  pub read : line_of (codes "{\"op\":\"read\",\"over\":7}") ≡ Ok (Act (event.Ask 0 (command.Read 7)))
  pub write : line_of (codes "{\"op\":\"write\",\"over\":8,\"text\":\"hi\"}") ≡ Ok (Act (event.Ask 0 (command.Write 8 (codes "hi"))))
  pub shade : line_of (codes "{\"op\":\"shade\",\"seat\":3}") ≡ Ok (Act (event.Shade 3))
  pub look : line_of (codes "{\"op\":\"look\",\"at\":1}") ≡ Ok (Act (event.Ask 0 (command.Look 1)))
  pub enrol : line_of (codes "{\"op\":\"enrol\",\"name\":\"carol\",\"rights\":\"t\"}") ≡ Ok (Act (event.Ask 0 (command.Enrol (codes "carol") take_alone)))
  pub retire : line_of (codes "{\"op\":\"retire\",\"seat\":2}") ≡ Ok (Act (event.Ask 2 command.Retire))
  pub assume : line_of (codes "{\"op\":\"assume\",\"agent\":3}") ≡ Ok (Act (event.Ask 0 (command.Assume 3)))
  pub leave : line_of (codes "{\"op\":\"leave\",\"seat\":2}") ≡ Ok (Act (event.Ask 2 command.Leave))
  pub bye : line_of (codes " {\"seat\":7,\"op\":\"bye\"} ") ≡ Ok (Act (event.Bye 7))
  pub collect : line_of (codes "{\"op\":\"collect\"}") ≡ Ok (Act event.Collect)
  pub cycle : line_of (codes "{\"op\":\"cycle\",\"seat\":99}") ≡ Ok Cycle
  pub bad_seat : line_of (codes "{\"op\":\"cycle\",\"seat\":\"a\"}") ≡ Err fault.BadField
  pub unknown_in_collect : line_of (codes "{\"op\":\"collect\",\"over\":1}") ≡ Err fault.UnknownField
  pub cut : line_of (codes "{\"op\":\"bye\"") ≡ Err fault.NotJson
  pub list : line_of (codes "[]") ≡ Err fault.NotObject
  pub other_op : line_of (codes "{\"op\":\"steal\"}") ≡ Err fault.NoOp
  pub missing : line_of (codes "{\"op\":\"read\",\"x\":1}") ≡ Err fault.MissingField
  pub negative : line_of (codes "{\"op\":\"read\",\"over\":-1}") ≡ Err fault.BadField
  pub null_seat : line_of (codes "{\"op\":\"bye\",\"seat\":null}") ≡ Err fault.BadField
  pub twice : line_of (codes "{\"op\":\"remove\",\"over\":1,\"rights\":\"rr\"}") ≡ Err fault.BadField
  pub no_name : line_of (codes "{\"op\":\"enrol\",\"name\":\"Carol\",\"rights\":\"t\"}") ≡ Err fault.BadField
  pub unknown : line_of (codes "{\"op\":\"bye\",\"x\":1}") ≡ Err fault.UnknownField
  pub seat_in_step : step_of (codes "{\"op\":\"look\",\"at\":1,\"actor\":1,\"seat\":0}") ≡ Err fault.UnknownField
  pub hello_in_step : step_of (codes "{\"op\":\"hello\",\"name\":\"a\",\"actor\":1}") ≡ Err fault.NoOp
  pub enrol_in_step : step_of (codes "{\"op\":\"enrol\",\"name\":\"carol\",\"rights\":\"t\",\"actor\":1}") ≡ Err fault.NoOp
  pub retire_in_step : step_of (codes "{\"op\":\"retire\",\"actor\":1}") ≡ Err fault.NoOp
  pub assume_in_step : step_of (codes "{\"op\":\"assume\",\"agent\":3,\"actor\":1}") ≡ Err fault.NoOp
  pub leave_in_step : step_of (codes "{\"op\":\"leave\",\"actor\":1}") ≡ Err fault.NoOp
  pub cycle_in_step : step_of (codes "{\"op\":\"cycle\",\"actor\":1}") ≡ Err fault.NoOp
  pub goal : goal_of (codes "{\"from\":1,\"rights\":\"\",\"to\":2}") ≡ Ok (record { from = 1; to = 2; rights = none })
  pub no_line : config_of [] ≡ Err fault.NotJson
  pub defaults : config_of (codes "{\"principals\":[\"a\"]}") ≡ Ok (record { principals = codes "a" ∷ []; edges = []; next = 2; slots = 1024; cells = 16384 })
  pub op_in_config : config_of (codes "{\"principals\":[],\"op\":\"x\"}") ≡ Err fault.UnknownField
