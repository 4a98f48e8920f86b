-- Steps and goals are read back from the lines that are written for them.
use Rattle.std.proofs.Common.{◌≡◌, ℕ, ◌+◌, ◌%◌, ◌&&◌, ◌<◌, ◌≤◌, ◌^◌, Bool, true, false, [], ◌∷◌, ◌++◌, length, codes, refl, ap, ◌∙◌, arith, decimal, length-append}
use Rattle.std.specs.Prelude.{None, Ok, Result, if◌then◌else◌, nat_le}
use Rattle.std.specs.Str.{IsUtf8, is_utf8}
use Rattle.std.proofs.lemmas.Bool.{le-leb, leb-true, lt-ltb}
use Rattle.std.proofs.lemmas.Str.{IsUtf8-append, is_utf8-from_IsUtf8}
use Rattle.std.proofs.lemmas.Fmt.{decimal_by_steps, length-decimal-le}
use Rattle.json.specs.Print.{escape_byte, quoted}
use Rattle.json.specs.Tree as tree
use Rattle.json.proofs.Printed.Utf8.{IsUtf8-are_ascii, IsUtf8-quoted, are_ascii}
use Rattle.serde_json.specs.Data.{Data, string, number, unsigned, object, Members, no_members, member}
use Rattle.serde_json.specs.Find.{as_object}
use Rattle.serde_json.specs.Read.{read}
use Rattle.serde_json.specs.Written.{comma_if, compact_text, members_outline, members_text}
use Rattle.tg_rights.specs.Promise.Letters.{Letters}
use Rattle.tg_rights.specs.Promise.Written.{rights_text}
use Rattle.tg_rights.proofs.WrittenLemmas.{rights_of-text}
use Rattle.tg_rights.specs.declared.kind.Kind.TheVariants as kind
use Rattle.tg_rights.specs.declared.command.Command.{Command}
use Rattle.tg_rights.specs.declared.command.Command.TheVariants as command
use Rattle.tg_graph.specs.declared.derivation.Goal.{Goal}
use Rattle.tg_graph.specs.declared.derivation.Step.{Step}
use Rattle.tg_wire.specs.Promise.Reading.{◌>>=◌, fields_of, guard, json_object, object_of, or_else}
use Rattle.tg_wire.specs.Promise.Configs.{goal_in}
use Rattle.tg_wire.specs.Promise.Lines.{goal_of, step_in, step_of}
use Rattle.tg_wire.specs.Promise.StepLines.{Rewrites, goal_data, goal_members, goal_text, step_members, step_text}
use Rattle.tg_wire.specs.declared.fault.WireFault.{WireFault}
use Rattle.tg_wire.specs.declared.fault.WireFault.TheVariants as fault
use Rattle.tg_wire.proofs.LineTextLemmas.{IsPlain, MembersArePlain, put_onto, read_compact}

-- a number of 64 bits, or a text of ASCII
abbrev IsField : Data → Type 0
IsField (number (unsigned n)) = n < 2 ^ 64
IsField (string s) = are_ascii s ≡ true
IsField _ = ⊥

abbrev AreFields : Members → Type 0
AreFields no_members = Unit {0}
AreFields (member k d ms) = (are_ascii k ≡ true) × IsField d × AreFields ms

-- the most bytes that it takes
abbrev bytes_in : Data → ℕ
bytes_in (string s) = length (quoted s)
bytes_in _ = 20

abbrev member_bytes : Members → ℕ
member_bytes no_members = 1
member_bytes (member k d ms) = length (quoted k) + (bytes_in d + (member_bytes ms + 2))

digit_utf8 : (k : ℕ) → k < 10 → IsUtf8 ((48 + k) ∷ [])
digit_utf8 k small = IsUtf8-are_ascii ((48 + k) ∷ []) (ap (λ b. b && true) (lt-ltb (48 + k) 128 (omega arith)))

decimal_utf8 : (n : ℕ) → n < 2 ^ 64 → IsUtf8 (decimal n)
decimal_utf8 = decimal_by_steps (λ m ds. IsUtf8 ds) digit_utf8 (λ m ds l h. IsUtf8-append ds ((48 + m % 10) ∷ []) h (digit_utf8 (m % 10) (omega arith)))

field_utf8 : (d : Data) → IsField d → IsUtf8 (compact_text d)
field_utf8 (number (unsigned n)) h = decimal_utf8 n h
field_utf8 (string s) h = IsUtf8-quoted s (IsUtf8-are_ascii s h)
field_utf8 _ h = absurd h

comma_utf8 : (later : Bool) → IsUtf8 (comma_if later)
comma_utf8 true = IsUtf8-are_ascii (44 ∷ []) refl
comma_utf8 false = IsUtf8-are_ascii [] refl

fields_utf8 : (later : Bool) (ms : Members) → AreFields ms → IsUtf8 (members_text later ms)
fields_utf8 later no_members h = IsUtf8-are_ascii (125 ∷ []) refl
fields_utf8 later (member k d ms) h =
    IsUtf8-append (comma_if later) _ (comma_utf8 later) (IsUtf8-append (quoted k) _ (IsUtf8-quoted k (IsUtf8-are_ascii k h.0))
    (IsUtf8-append (58 ∷ []) _ (IsUtf8-are_ascii (58 ∷ []) refl) (IsUtf8-append (compact_text d) _ (field_utf8 d h.1) (fields_utf8 true ms h.2))))

field_short : (d : Data) → IsField d → length (compact_text d) ≤ bytes_in d
field_short (number (unsigned n)) h = length-decimal-le 20 n (omega arith) (omega arith) h
field_short (string s) h = omega arith
field_short _ h = absurd h

comma_short : (later : Bool) → length (comma_if later) ≤ 1
comma_short true = omega arith
comma_short false = omega arith

fields_short : (later : Bool) (ms : Members) → AreFields ms → length (members_text later ms) ≤ member_bytes ms
fields_short later no_members h = omega arith
fields_short later (member k d ms) h =
    let rest = members_text true ms in
    omega (arith, comma_short later, field_short d h.1, fields_short true ms h.2, length-append (comma_if later) (quoted k ++ 58 ∷ (compact_text d ++ rest)), length-append (quoted k) (58 ∷ (compact_text d ++ rest)), length-append (compact_text d) rest)

field_plain : (d : Data) → IsField d → IsPlain d
field_plain (number (unsigned n)) h = h
field_plain (string s) h = tt
field_plain _ h = absurd h

fields_plain : (ms : Members) → AreFields ms → MembersArePlain ms
fields_plain no_members h = tt
fields_plain (member k d ms) h = (field_plain d h.1, fields_plain ms h.2)

fields_flat : (ms : Members) → AreFields ms → tree.members_depth (members_outline ms) ≤ 0
fields_flat no_members h = omega arith
fields_flat (member k (number n) ms) h = omega (arith, fields_flat ms h.2)
fields_flat (member k (string s) ms) h = omega (arith, fields_flat ms h.2)
fields_flat (member k _ ms) h = absurd h.1

guarded : (b : Bool) (ms : Members) (r : Result Data WireFault) → b ≡ true → (guard b fault.TooLong >>= (λ _. r)) ≡ r
guarded b ms r e = ap (λ c. guard c fault.TooLong >>= (λ _. r)) e

-- an object of few such fields, their keys in rising order, is read back from its text
object_back : (ms : Members) → AreFields ms → put_onto ms no_members ≡ ms → member_bytes ms ≤ 16000 → object_of (compact_text (object ms)) ≡ Ok (object ms)
object_back ms fields rising few =
    let text = compact_text (object ms) in
    let short : length text ≤ 16384 = omega (arith, fields_short false ms fields) in
    let utf8 : is_utf8 text ≡ true = is_utf8-from_IsUtf8 text (IsUtf8-append (123 ∷ []) _ (IsUtf8-are_ascii (123 ∷ []) refl) (fields_utf8 false ms fields)) in
    let found = read_compact (object ms) (fields_plain ms fields, rising) (omega (arith, fields_flat ms fields)) in
    guarded (nat_le (length text) 16384) ms (json_object text) (le-leb (length text) 16384 short)
    ∙ ap (λ b. or_else fault.NotJson (if b then read text else None) >>= (λ d. or_else fault.NotObject (as_object d) >>= (λ _. Ok d))) utf8
    ∙ ap (λ o. or_else fault.NotJson o >>= (λ d. or_else fault.NotObject (as_object d) >>= (λ _. Ok d))) found

rights_small : (α : Letters) → (are_ascii (rights_text α) ≡ true) × (nat_le (length (quoted (rights_text α))) 6 ≡ true)
unfolding escape_byte
rights_small α = by α.read α.write α.take α.grant where
  by : (r w t g : Bool) → (are_ascii (rights_text (record { read = r; write = w; take = t; grant = g })) ≡ true)
      × (nat_le (length (quoted (rights_text (record { read = r; write = w; take = t; grant = g })))) 6 ≡ true)
  by false false false false = (refl, refl)
  by false false false true = (refl, refl)
  by false false true false = (refl, refl)
  by false false true true = (refl, refl)
  by false true false false = (refl, refl)
  by false true false true = (refl, refl)
  by false true true false = (refl, refl)
  by false true true true = (refl, refl)
  by true false false false = (refl, refl)
  by true false false true = (refl, refl)
  by true false true false = (refl, refl)
  by true false true true = (refl, refl)
  by true true false false = (refl, refl)
  by true true false true = (refl, refl)
  by true true true false = (refl, refl)
  by true true true true = (refl, refl)

ascii : (α : Letters) → are_ascii (rights_text α) ≡ true
ascii α = (rights_small α).0

six : (α : Letters) → length (quoted (rights_text α)) ≤ 6
six α = leb-true (length (quoted (rights_text α))) 6 (rights_small α).1

step_fields : (x : ℕ) (c : Command) → x < 2 ^ 64 → Rewrites c → AreFields (step_members x c)
step_fields x (command.Take α over from) hx h = (refl, hx, (refl, h.1, (refl, refl, (refl, h.0, (refl, ascii α, tt)))))
step_fields x (command.Grant α over to) hx h = (refl, hx, (refl, refl, (refl, h.0, (refl, ascii α, (refl, h.1, tt)))))
step_fields x (command.Create kind.Subject α) hx h = (refl, hx, (refl, refl, (refl, refl, (refl, ascii α, tt))))
step_fields x (command.Create kind.Document α) hx h = (refl, hx, (refl, refl, (refl, refl, (refl, ascii α, tt))))
step_fields x (command.Remove α over) hx h = (refl, hx, (refl, refl, (refl, h, (refl, ascii α, tt))))
step_fields x _ hx h = absurd h

step_rises : (x : ℕ) (c : Command) → Rewrites c → put_onto (step_members x c) no_members ≡ step_members x c
step_rises x (command.Take α over from) h = refl
step_rises x (command.Grant α over to) h = refl
step_rises x (command.Create k α) h = refl
step_rises x (command.Remove α over) h = refl
step_rises x _ h = absurd h

step_short : (x : ℕ) (c : Command) → Rewrites c → member_bytes (step_members x c) ≤ 16000
unfolding escape_byte
step_short x (command.Take α over from) h = omega (arith, six α)
step_short x (command.Grant α over to) h = omega (arith, six α)
step_short x (command.Create kind.Subject α) h = omega (arith, six α)
step_short x (command.Create kind.Document α) h = omega (arith, six α)
step_short x (command.Remove α over) h = omega (arith, six α)
step_short x _ h = absurd h

step_said : (x : ℕ) (c : Command) → Rewrites c → step_in (object (step_members x c)) ≡ Ok (record { actor = x; command = c })
step_said x (command.Take α over from) h = rw (rights_of-text α) refl
step_said x (command.Grant α over to) h = rw (rights_of-text α) refl
step_said x (command.Create kind.Subject α) h = rw (rights_of-text α) refl
step_said x (command.Create kind.Document α) h = rw (rights_of-text α) refl
step_said x (command.Remove α over) h = rw (rights_of-text α) refl
step_said x _ h = absurd h

pub step_back : (s : Step) → s.actor < 2 ^ 64 → Rewrites s.command → step_of (step_text s) ≡ Ok s
unfolding step_of step_text
step_back s small h =
    ap (λ r. r >>= step_in) (object_back (step_members s.actor s.command) (step_fields s.actor s.command small h) (step_rises s.actor s.command h) (step_short s.actor s.command h))
    ∙ step_said s.actor s.command h

goal_said : (g : Goal) → fields_of (codes "from" ∷ codes "to" ∷ codes "rights" ∷ []) [] goal_in (goal_data g) ≡ Ok g
goal_said g = rw (rights_of-text g.rights) refl

goal_short : (g : Goal) → member_bytes (goal_members g) ≤ 16000
unfolding escape_byte
goal_short g = omega (arith, six g.rights)

pub goal_back : (g : Goal) → g.from < 2 ^ 64 → g.to < 2 ^ 64 → goal_of (goal_text g) ≡ Ok g
unfolding goal_of goal_text
goal_back g from to =
    ap (λ r. r >>= fields_of (codes "from" ∷ codes "to" ∷ codes "rights" ∷ []) [] goal_in) (object_back (goal_members g) (refl, from, (refl, ascii g.rights, (refl, to, tt))) refl (goal_short g))
    ∙ goal_said g
