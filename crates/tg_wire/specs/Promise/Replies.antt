-- a reply as JSON, and its one line. Keys are in rising order.
use Rattle.std.specs.Prelude.{ℕ, List, [], ◌∷◌, ◌≡◌, ◌<◌, ◌^◌, map, codes}
use Rattle.serde_json.specs.View.{items_of}
use Rattle.serde_json.specs.Data.{Data, string, number, unsigned, array, object, Items, no_items, item, Members, no_members, member, put}
use Rattle.tg_rights.specs.Promise.Letters.{Letters}
use Rattle.tg_rights.specs.Promise.Written.{rights_text}
use Rattle.tg_rights.specs.declared.command.Rule.{Rule}
use Rattle.tg_rights.specs.declared.outcome.Cause.{Cause}
use Rattle.tg_rights.specs.declared.outcome.Cause.TheVariants as cause
use Rattle.tg_rights.specs.declared.outcome.Which.{Which}
use Rattle.tg_rights.specs.declared.outcome.Which.TheVariants as which
use Rattle.tg_rights.specs.declared.outcome.Reply.{Reply}
use Rattle.tg_rights.specs.declared.outcome.Reply.TheVariants as reply
use Rattle.tg_wire.specs.Promise.Faults.{line_text}
use Rattle.tg_wire.specs.Promise.Ops.{command_form}

abbrev pub rule_text : Rule → List ℕ
rule_text rule = (command_form rule).word

abbrev pub which_text : Which → List ℕ
which_text which.Serials = codes "serials"
which_text which.Slots = codes "slots"
which_text which.Cells = codes "cells"

abbrev pub edge_data : ℕ × Letters → Data
edge_data e = array (item (number (unsigned e.0)) (item (string (rights_text e.1)) no_items))

abbrev pub edges_data : List (ℕ × Letters) → Items
edges_data es = items_of (map edge_data es)

-- an object whose first member says that a command was carried out
abbrev ok : List ℕ → Members → Data
ok word rest = object (member (codes "ok") (string word) rest)

-- what a field says
pub data Content : Type 0 where
  Word : List ℕ → Content
  Number : ℕ → Content
  Rights : Letters → Content

abbrev pub content_data : Content → Data
content_data (Word text) = string text
content_data (Number n) = number (unsigned n)
content_data (Rights rights) = string (rights_text rights)

-- the fields that name a cause: one equation for each
abbrev pub cause_fields : Cause → List (List ℕ × Content)
cause_fields cause.Retired = (codes "cause", Word (codes "retired")) ∷ []
cause_fields cause.Empty = (codes "cause", Word (codes "empty")) ∷ []
cause_fields cause.NotDistinct = (codes "cause", Word (codes "not distinct")) ∷ []
cause_fields (cause.Missing rights from to) = (codes "from", Number from) ∷ (codes "missing", Rights rights) ∷ (codes "to", Number to) ∷ []
cause_fields (cause.NotDocument vertex) = (codes "cause", Word (codes "not document")) ∷ (codes "vertex", Number vertex) ∷ []
cause_fields (cause.NotSubject vertex) = (codes "cause", Word (codes "not subject")) ∷ (codes "vertex", Number vertex) ∷ []
cause_fields cause.NotPrincipal = (codes "cause", Word (codes "not principal")) ∷ []
cause_fields cause.NameTaken = (codes "cause", Word (codes "name taken")) ∷ []
cause_fields cause.Crowded = (codes "cause", Word (codes "crowded")) ∷ []

-- fields among other members, by the order of their keys
abbrev pub with_fields : List (List ℕ × Content) → Members → Members
with_fields [] ms = ms
with_fields (f ∷ fs) ms = with_fields fs (put f.0 (content_data f.1) ms)

abbrev pub denied_data : Rule → Cause → Data
denied_data rule cause = object (with_fields (cause_fields cause) (member (codes "denied") (string (rule_text rule)) no_members))

abbrev pub reply_data : Reply → Data
reply_data reply.Done = ok (codes "done") no_members
reply_data (reply.Created n) = ok (codes "created") (member (codes "vertex") (number (unsigned n)) no_members)
reply_data (reply.Text t) = ok (codes "text") (member (codes "text") (string t) no_members)
reply_data (reply.Edges es) = object (member (codes "edges") (array (edges_data es)) (member (codes "ok") (string (codes "edges")) no_members))
reply_data (reply.Denied rule cause) = denied_data rule cause
reply_data (reply.Full which) = object (member (codes "full") (string (which_text which)) no_members)

unfoldable pub reply_line : Reply → List ℕ
reply_line r = line_text (reply_data r)

-- ---- two different replies have different lines

-- serials are below 2 ^ 64
abbrev pub AreEdges : List (ℕ × Letters) → Type 0
AreEdges [] = Unit {0}
AreEdges (e ∷ es) = (e.0 < 2 ^ 64) × AreEdges es

abbrev pub AreContents : List (List ℕ × Content) → Type 0
AreContents [] = Unit {0}
AreContents ((key, Word text) ∷ fs) = AreContents fs
AreContents ((key, Number n) ∷ fs) = (n < 2 ^ 64) × AreContents fs
AreContents ((key, Rights rights) ∷ fs) = AreContents fs

-- the numbers of a reply are in their type's range
abbrev pub IsReply : Reply → Type 0
IsReply reply.Done = Unit {0}
IsReply (reply.Created n) = n < 2 ^ 64
IsReply (reply.Text t) = Unit {0}
IsReply (reply.Edges es) = AreEdges es
IsReply (reply.Denied rule cause) = AreContents (cause_fields cause)
IsReply (reply.Full which) = Unit {0}

abbrev pub OneReplyALine : Type 0
OneReplyALine = (a b : Reply) → IsReply a → IsReply b → reply_line a ≡ reply_line b → a ≡ b
