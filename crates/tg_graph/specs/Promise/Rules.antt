-- the rules: when a command is allowed, why it is denied, what it changes and what its reply is
use Rattle.std.specs.Prelude.{◌≡◌, ◌<◌, ◌≤◌, ℕ, ◌+◌, Bool, true, false, if◌then◌else◌, not, ◌||◌, List, [], ◌∷◌, Option, Some, None}
use Rattle.std.specs.Option.{option_map_or}
use Rattle.std.specs.FinMap as map
use Rattle.std.specs.FinSet as set
use Rattle.tg_rights.specs.Promise.Letters.{Letters, is_none, includes, without}
use Rattle.tg_rights.specs.Promise.Command.{rule_of}
use Rattle.tg_rights.specs.declared.kind.Kind.{Kind}
use Rattle.tg_rights.specs.declared.kind.Kind.TheVariants as kind
use Rattle.tg_rights.specs.declared.command.Rule.{Rule}
use Rattle.tg_rights.specs.declared.command.Command.{Command}
use Rattle.tg_rights.specs.declared.outcome.Cause.{Cause}
use Rattle.tg_rights.specs.declared.outcome.Cause.TheVariants as cause
use Rattle.tg_rights.specs.declared.outcome.Which.TheVariants as which
use Rattle.tg_rights.specs.declared.outcome.Outcome.{Outcome}
use Rattle.tg_rights.specs.declared.outcome.Outcome.TheVariants as outcome
use Rattle.tg_rights.specs.declared.outcome.Reply.{Reply}
use Rattle.tg_rights.specs.declared.outcome.Reply.TheVariants as reply
use Rattle.tg_graph.specs.declared.member.Member.{Member}
use Rattle.tg_graph.specs.declared.vertex.Vertex.{Vertex}
use Rattle.tg_graph.specs.declared.rules.Need.{Need}
use Rattle.tg_graph.specs.Promise.Terms as effect
use Rattle.tg_graph.specs.Promise.Protection.{edge, has_serial, is_crowded, is_taken, with_member, without_member, Protection, has_retired, kind_of, label, vertex}
use Rattle.tg_graph.specs.Promise.Terms.{Does, Terms, terms}

-- a check: the cause for which it fails, if it does
abbrev pub Check : Type 0
Check = Option Cause

abbrev pub unless : Bool → Cause → Check
unless passes why = if passes then None else Some why

abbrev pub names_rights : Option Letters → Bool
names_rights None = true
names_rights (Some α) = not (is_none α)

abbrev pub is_of_kind : Option Kind → Kind → Bool
is_of_kind None wanted = false
is_of_kind (Some kind.Subject) kind.Subject = true
is_of_kind (Some kind.Subject) kind.Document = false
is_of_kind (Some kind.Document) kind.Subject = false
is_of_kind (Some kind.Document) kind.Document = true

-- the cause that a vertex is not of a kind
abbrev pub not_of_kind : ℕ → Kind → Cause
not_of_kind v kind.Subject = cause.NotSubject v
not_of_kind v kind.Document = cause.NotDocument v

module _ (G : Protection) where
  -- the label has the rights of the need
  abbrev pub is_met : Need → Bool
  is_met n = includes (label G n.from n.to) n.rights

  -- the rights of the need that the label lacks
  abbrev pub lack : Need → Cause
  lack n = cause.Missing (without n.rights (label G n.from n.to)) n.from n.to

  -- the first need that is not met
  abbrev pub missing : List Need → Check
  missing [] = None
  missing (n ∷ ns) = if is_met n then missing ns else Some (lack n)

  -- that the vertex which has to be of a kind is not
  abbrev pub misfit : Option (ℕ × Kind) → Check
  misfit None = None
  misfit (Some w) = unless (is_of_kind (kind_of G w.0) w.1) (not_of_kind w.0 w.1)

  -- what the rules ask of x, if it has not retired and these are the principals, in this order
  abbrev pub later_checks : List Member → ℕ → Terms → List Check
  later_checks members x t =
      unless (names_rights t.names) cause.Empty
      ∷ unless t.apart cause.NotDistinct
      ∷ missing t.needs
      ∷ misfit t.wants
      ∷ unless (not t.principal || has_serial members x) cause.NotPrincipal
      ∷ unless (not (is_taken members t.name)) cause.NameTaken
      ∷ unless (not (is_crowded members t.name)) cause.Crowded
      ∷ []

  -- what the rules ask of x: first of all that it has not retired, unless the command is for those too
  abbrev pub checks : ℕ → Terms → List Check
  checks x t = unless (not (has_retired G x) || t.for_retired) cause.Retired ∷ later_checks G.names x t

-- the first check that fails
abbrev pub first_failure : List Check → Check
first_failure [] = None
first_failure (None ∷ later) = first_failure later
first_failure (Some why ∷ later) = Some why

abbrev pub AllPass : List Check → Type 0
AllPass [] = Unit {0}
AllPass (check ∷ later) = (check ≡ None) × AllPass later

-- why the rules deny x the command, if they do
abbrev pub denial : Protection → ℕ → Command → Check
denial G x c = first_failure (checks G x (terms x c))

-- the same of an x that has not retired, where these are the principals
abbrev pub later_denial : Protection → List Member → ℕ → Command → Check
later_denial G members x c = first_failure (later_checks G members x (terms x c))

module _ (G : Protection) where
  -- the rules allow x the command: no check fails
  abbrev pub Allowed : ℕ → Command → Type 0
  Allowed x c = denial G x c ≡ None

  -- the command's rule denies it for the first check that fails
  abbrev pub Denied : ℕ → Command → Rule → Cause → Type 0
  Denied x c rule why = (rule ≡ rule_of c) × (denial G x c ≡ Some why)

  -- the rules alone decide in this way
  abbrev pub Judged : ℕ → Command → Outcome → Type 0
  Judged x c outcome.Allowed = Allowed x c
  Judged x c (outcome.Denied rule why) = Denied x c rule why
  Judged x c (outcome.Full w) = ⊥

-- the greatest serial that a vertex may have
abbrev pub last_serial : ℕ
last_serial = 18446744073709551614

abbrev pub text_of : Protection → ℕ → List ℕ
text_of G v = option_map_or (λ e. e.text) (vertex G v) []

-- the pairs of a vertex and its label, if the label is not empty
abbrev pub labelled : (ℕ → Letters) → List ℕ → List (ℕ × Letters)
labelled l [] = []
labelled l (y ∷ ys) = if is_none (l y) then labelled l ys else (y, l y) ∷ labelled l ys

-- the edges of z with their labels, by rising serial
unfoldable pub edges_of : Protection → ℕ → List (ℕ × Letters)
edges_of G z = labelled (label G z) (map.keys G.vertices)

-- the graph with this text in place of what the vertex v had, if v is a vertex
abbrev pub with_text : Protection → ℕ → List ℕ → Option Vertex → Protection
with_text G v text None = G
with_text G v text (Some e) = record G { vertices = map.insert G.vertices v (record e { text = text }) }

-- the graph once x has done this
abbrev pub done : Protection → ℕ → Does → Protection
done G x (effect.Joins from α to) = record G { triples = set.union G.triples (edge from α to) }
done G x (effect.Makes k α name) = record G {
  vertices = map.insert G.vertices G.next (record { kind = k; text = [] });
  next = G.next + 1;
  triples = set.union G.triples (edge x α G.next);
  names = with_member G.names name G.next;
}
done G x (effect.Drops α over) = record G { triples = set.difference G.triples (edge x α over) }
done G x (effect.Rewrites over text) = with_text G over text (vertex G over)
done G x effect.Retires = record G { names = without_member G.names x; retired = set.insert G.retired x }
done G x _ = G

-- the reply
abbrev pub answered : Protection → Does → Reply
answered G (effect.Makes k α name) = reply.Created G.next
answered G (effect.Tells over) = reply.Text (text_of G over)
answered G (effect.Lists at) = reply.Edges (edges_of G at)
answered G _ = reply.Done

-- whether it makes a vertex
abbrev pub is_new : Does → Bool
is_new (effect.Makes k α name) = true
is_new _ = false

-- whether carrying it out may need memory: for a label, for a vertex, for who has retired, or for the reply. A text and
-- a name are moved
abbrev pub may_allocate : Does → Bool
may_allocate (effect.Drops α over) = false
may_allocate (effect.Rewrites over text) = false
may_allocate (effect.Acts agent) = false
may_allocate _ = true

-- a command of x that may need memory
abbrev pub takes_memory : ℕ → Command → Bool
takes_memory x c = may_allocate (terms x c).does

-- a command of x that makes a vertex
abbrev pub is_create : ℕ → Command → Bool
is_create x c = is_new (terms x c).does

-- a command that x may ask even after it has retired
abbrev pub is_for_retired : ℕ → Command → Bool
is_for_retired x c = (terms x c).for_retired

module _ (G : Protection) (x : ℕ) where
  -- the graph after an allowed command of x, and the reply to it
  abbrev pub after : Command → Protection
  after c = done G x (terms x c).does

  abbrev pub allowed_reply : Command → Reply
  allowed_reply c = answered G (terms x c).does

  abbrev pub reply_of : Command → Outcome → Reply
  reply_of c outcome.Allowed = allowed_reply c
  reply_of c (outcome.Denied rule why) = reply.Denied rule why
  reply_of c (outcome.Full w) = reply.Full w

  -- the graph after a command of x with this outcome
  abbrev pub next_graph : Command → Outcome → Protection
  next_graph c outcome.Allowed = after c
  next_graph c _ = G

  -- how the plain graph alone decides, which is full for serials and nothing else: a create also needs a serial
  abbrev pub PlainlyDecided : Command → Outcome → Type 0
  PlainlyDecided c outcome.Allowed = Allowed G x c × (is_create x c ≡ true → G.next ≤ last_serial)
  PlainlyDecided c (outcome.Denied rule why) = Denied G x c rule why
  PlainlyDecided c (outcome.Full which.Serials) = Allowed G x c × (is_create x c ≡ true) × (last_serial < G.next)
  PlainlyDecided c (outcome.Full which.Slots) = ⊥
  PlainlyDecided c (outcome.Full which.Cells) = ⊥

  -- the plain graph carries out or refuses a command of x: G becomes H, and this is the reply
  abbrev pub Applies : Command → Reply → Protection → Type 0
  Applies c answer H = (o : Outcome) × PlainlyDecided c o × (answer ≡ reply_of c o) × (H ≡ next_graph c o)
