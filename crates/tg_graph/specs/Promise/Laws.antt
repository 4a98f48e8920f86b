-- laws of the rules, and the definitions of openings and edge lists in other words
use Rattle.std.specs.Prelude.{map as map_list, ◌≡◌, ◌≢◌, ◌⊎◌, ◌≤◌, ℕ, ◌+◌, Bool, true, false, List, [], ◌∷◌, ◌++◌, length, IsTrue, Option, Some, None, ◌↔◌}
use Rattle.std.specs.Ordering.{nat_cmp}
use Rattle.std.specs.FinMap.Entries.{is_sorted}
use Rattle.std.specs.FinMap as map
use Rattle.std.specs.FinSet as set
use Rattle.tg_lists.specs.Promise.Membership.{Contains}
use Rattle.tg_rights.specs.Promise.Letters.{Letters, Right, take, grant, has, joined as joined_rights, without, includes, is_none}
use Rattle.tg_rights.specs.declared.kind.Kind.{Kind}
use Rattle.tg_rights.specs.declared.kind.Kind.TheVariants as kind
use Rattle.tg_rights.specs.declared.limits.TheConstants.{MAX_CELLS, MAX_PRINCIPALS, MAX_SLOTS}
use Rattle.tg_rights.specs.declared.command.Command.{Command}
use Rattle.tg_rights.specs.Promise.Command.{rule_of}
use Rattle.tg_rights.specs.declared.command.Command.TheVariants as command
use Rattle.tg_rights.specs.declared.command.Rule.{Rule}
use Rattle.tg_rights.specs.declared.command.Rule.TheVariants as rule
use Rattle.tg_rights.specs.declared.outcome.Outcome.{Outcome}
use Rattle.tg_rights.specs.declared.outcome.Reply.{Reply}
use Rattle.tg_rights.specs.declared.outcome.Reply.TheVariants as reply
use Rattle.tg_graph.specs.declared.config.Config.{Config}
use Rattle.tg_graph.specs.declared.config.OpenFault.{OpenFault}
use Rattle.tg_graph.specs.declared.config.OpenFault.TheVariants as fault
use Rattle.tg_graph.specs.declared.member.Member.{Member}
use Rattle.tg_graph.specs.declared.vertex.Vertex.{Vertex}
use Rattle.tg_graph.specs.Promise.Protection.{IsMember, MayBeNamed, same_name, with_member, Triple, edge, IsEdge, IsGraph, IsSubject, IsVertex, Protection, has_retired, kind_of, label, named, vertex, Agree, IsPart, IsRestriction}
use Rattle.tg_graph.specs.Promise.Opening.{IsRefusal, ListedEdge, first_fault, has_twice, is_at_fault, is_principal, principal_count, opening, same_pair}
use Rattle.tg_graph.specs.Promise.Fullness.{Limits, Permitted, vertex_count, edge_count, edges_at}
use Rattle.tg_graph.specs.Promise.Agreement.{IsRepliedAlike, KeepsViewers, SameReply}
use Rattle.tg_graph.specs.Promise.Rules.{Check, AllPass, Judged, Allowed, Applies, after, allowed_reply, checks, denial, edges_of, is_create, names_rights, next_graph, reply_of}
use Rattle.tg_graph.specs.Promise.Terms.{Terms, terms}
use Rattle.tg_graph.specs.declared.rules.Need.{Need}
use Rattle.tg_rights.specs.declared.outcome.Cause.{Cause}
use Rattle.tg_rights.specs.declared.outcome.Cause.TheVariants as cause

-- each command is either allowed or denied for one cause
abbrev pub ExactlyOneOutcome : Type 0
ExactlyOneOutcome =
    (G : Protection) (x : ℕ) (c : Command) → (o : Outcome) × Judged G x c o × ((p : Outcome) → Judged G x c p → p ≡ o)

-- every need is met
abbrev pub AllMet : Protection → List Need → Type 0
AllMet G [] = Unit {0}
AllMet G (n ∷ ns) = IsTrue (includes (label G n.from n.to) n.rights) × AllMet G ns

-- the vertex that has to be of a kind is
abbrev pub IsAsWanted : Protection → Option (ℕ × Kind) → Type 0
IsAsWanted G None = Unit {0}
IsAsWanted G (Some w) = kind_of G w.0 ≡ Some w.1

-- what a rule asks of x is there
pub record Meets (G : Protection) (x : ℕ) (t : Terms) : Type 0 where
  pub unretired : t.for_retired ≡ false → has_retired G x ≡ false
  pub named : IsTrue (names_rights t.names)
  pub apart : IsTrue t.apart
  pub met : AllMet G t.needs
  pub wants : IsAsWanted G t.wants
  pub principal : t.principal ≡ true → IsMember G.names x
  pub name : MayBeNamed G.names t.name

-- a command is allowed exactly if all that its rule asks is there
abbrev pub AllowedIsMet : Type 0
AllowedIsMet = (G : Protection) (x : ℕ) (c : Command) → Allowed G x c ↔ Meets G x (terms x c)

-- a denial names a check that fails, and all before it pass
abbrev pub DenialsAreFirst : Type 0
DenialsAreFirst =
    (G : Protection) (x : ℕ) (c : Command) (why : Cause) →
    (denial G x c ≡ Some why)
    ↔ ((before : List Check) × (later : List Check) × (checks G x (terms x c) ≡ before ++ Some why ∷ later) × AllPass before)

-- what the rules decide in one graph, they decide in each that agrees with it for the actor
abbrev pub OutcomesAgree : Type 0
OutcomesAgree = (G H : Protection) (x : ℕ) (c : Command) (o : Outcome) → Agree G H x → Judged G x c o → Judged H x c o

-- an allowed command that makes no vertex has the same reply in graphs that agree for the actor
abbrev pub RepliesAgree : Type 0
RepliesAgree =
    (G H : Protection) (x : ℕ) (c : Command) → IsGraph G → IsGraph H → Agree G H x → Allowed G x c → is_create x c ≡ false → allowed_reply G x c ≡ allowed_reply H x c

-- a subject's command, carried out or refused, has the same reply in each graph that agrees for it, but for a new
-- vertex's serial and for fullness; and graphs that agree for some subjects still agree for them afterwards
abbrev pub AnswersAgree : Type 0
AnswersAgree =
    (G K : Protection) (x : ℕ) (c : Command) (answer : Reply) → IsGraph G → Applies G x c answer K → IsRepliedAlike G x c answer × KeepsViewers G x c answer K

-- so the next command of one of these subjects has the same reply in both as well
abbrev pub AnswersStayAlike : Type 0
AnswersStayAlike =
    (G H K L M N : Protection) (x y : ℕ) (c d : Command) (a b p q : Reply) (viewers : set.FinSet nat_cmp) →
    IsGraph G → IsGraph H → IsGraph K → IsGraph L → G.next ≡ H.next → set.contains viewers x ≡ true → set.contains viewers y ≡ true →
    ((v : ℕ) → set.contains viewers v ≡ true → Agree G H v) →
    Applies G x c a K → Applies H x c b L → Applies K y d p M → Applies L y d q N → p ≡ q

-- an allowed command of a subject leaves a graph, in which each subject is still one
abbrev pub CommandsKeepGraphs : Type 0
CommandsKeepGraphs =
    (G : Protection) (x : ℕ) (c : Command) → IsGraph G → IsSubject G x → Allowed G x c →
    IsGraph (after G x c) × ((v : ℕ) → IsSubject G v → IsSubject (after G x c) v)

-- no vertex has a right over itself
abbrev pub RightsAreOverOthers : Type 0
RightsAreOverOthers = (G : Protection) → IsGraph G → (v : ℕ) (r : Right) → has (label G v v) r ≡ false

-- a configuration is refused for what is wrong in it, or for want of memory
abbrev pub RefusalsAreFaults : Type 0
RefusalsAreFaults = (c : Config) (f : OpenFault) → IsRefusal c f → f ≢ fault.OutOfMemory → is_at_fault c f ≡ true

-- who is a principal: a name finds exactly the one who has it. An enrol makes one more, with the next serial; a retire
-- takes out the actor, who has then retired; and nothing else changes who is a principal and who has retired
pub record ComeAndGo (G : Protection) (x : ℕ) : Type 0 where
  pub found : (name : List ℕ) (v : ℕ) → (named G name ≡ Some v) ↔ Contains G.names (record { name = name; serial = v })
  pub enrolled : (name : List ℕ) (α : Letters) (m : Member) →
      Contains (after G x (command.Enrol name α)).names m ↔ (Contains G.names m ⊎ (m ≡ record { name = name; serial = G.next }))
  pub left : (m : Member) → Contains (after G x command.Retire).names m ↔ (Contains G.names m × (m.serial ≢ x))
  pub retired : (v : ℕ) → (has_retired (after G x command.Retire) v ≡ true) ↔ ((has_retired G v ≡ true) ⊎ (v ≡ x))
  pub names : (c : Command) → rule_of c ≢ rule.Enrol → rule_of c ≢ rule.Retire → (after G x c).names ≡ G.names
  pub others : (c : Command) → rule_of c ≢ rule.Retire → (after G x c).retired ≡ G.retired

abbrev pub PrincipalsComeAndGo : Type 0
PrincipalsComeAndGo = (G : Protection) (x : ℕ) → IsGraph G → ComeAndGo G x

-- x may act for the agent
pub record MayAssume (G : Protection) (x agent : ℕ) : Type 0 where
  pub unretired : has_retired G x ≡ false
  pub apart : x ≢ agent
  pub has_take : has (label G x agent) take ≡ true
  pub has_grant : has (label G x agent) grant ≡ true
  pub subject : IsSubject G agent

-- an assume is allowed exactly to who may act for the agent; a leave is always allowed, and is the only command that is
-- not denied to who has retired; neither changes the graph
pub record AssumesAndLeaves (G : Protection) (x : ℕ) : Type 0 where
  pub assumed : (agent : ℕ) → Allowed G x (command.Assume agent) ↔ MayAssume G x agent
  pub left : Allowed G x command.Leave
  pub retired : (c : Command) → rule_of c ≢ rule.Leave → has_retired G x ≡ true → denial G x c ≡ Some cause.Retired
  pub same : (agent : ℕ) → (after G x (command.Assume agent) ≡ G) × (after G x command.Leave ≡ G)

abbrev pub AgentsAreAssumedAndLeft : Type 0
AgentsAreAssumedAndLeft = (G : Protection) (x : ℕ) → AssumesAndLeaves G x

-- a configuration without a fault opens a graph of its principals, who are few
abbrev pub OpeningsAreSound : Type 0
OpeningsAreSound =
    (c : Config) → first_fault c ≡ None →
    (principal_count c ≤ MAX_PRINCIPALS) × ((k : ℕ) → is_principal (principal_count c) k ≡ true → IsSubject (opening c) k)

-- and needs no more slots and cells than it names: one for each principal and for each edge of the list
abbrev pub OpeningsFit : Type 0
OpeningsFit =
    (c : Config) → first_fault c ≡ None →
    (vertex_count (opening c) ≡ principal_count c) × (edge_count (opening c) ≤ length c.edges.items) × (principal_count c ≤ c.slots) × (length c.edges.items ≤ c.cells)
    × (1 ≤ c.slots) × (c.slots ≤ MAX_SLOTS) × (1 ≤ c.cells) × (c.cells ≤ MAX_CELLS)

-- a part of a graph agrees with it for each of its subjects
abbrev pub PartsAgree : Type 0
PartsAgree = (G H : Protection) → IsPart G H → (x : ℕ) → IsVertex H x → IsSubject G x → Agree G H x

-- a part of a graph stays one when an allowed command of one of its subjects is carried out in both
abbrev pub PartsStay : Type 0
PartsStay =
    (G H : Protection) (x : ℕ) (c : Command) → IsGraph G → IsGraph H → IsPart G H → G.next ≡ H.next → IsVertex H x → IsSubject G x → Allowed G x c →
    IsPart (after G x c) (after H x c)

-- a restriction agrees with the graph for each of its subjects
abbrev pub RestrictionsAgree : Type 0
RestrictionsAgree = (G H : Protection) → IsRestriction G H (IsVertex H) → (x : ℕ) → IsVertex H x → IsSubject G x → Agree G H x

-- what may happen to a subject's command in a restriction, may happen to it in the graph
abbrev pub RestrictionsPermit : Type 0
RestrictionsPermit =
    (limits : Limits) (G H : Protection) (x : ℕ) (c : Command) (o : Outcome) → IsGraph G → IsGraph H → IsRestriction G H (IsVertex H) → IsSubject H x →
    Permitted limits H x c o → Permitted limits G x c o

-- and leaves a restriction of what it leaves of the graph
abbrev pub RestrictionsStay : Type 0
RestrictionsStay =
    (limits : Limits) (G H : Protection) (x : ℕ) (c : Command) (o : Outcome) → IsGraph G → IsGraph H → IsRestriction G H (IsVertex H) → IsSubject H x →
    Permitted limits H x c o → IsRestriction (next_graph G x c o) (next_graph H x c o) (IsVertex (next_graph H x c o))

-- and the reply is the same
abbrev pub RestrictionsReply : Type 0
RestrictionsReply =
    (limits : Limits) (G H : Protection) (x : ℕ) (c : Command) (o : Outcome) → IsGraph G → IsGraph H → IsRestriction G H (IsVertex H) → IsSubject H x →
    Permitted limits H x c o → reply_of G x c o ≡ reply_of H x c o

-- a configuration opens the graph of its list: the vertices are its principals, subjects of no text with the serials
-- from 1 on, each active under its name, nobody has retired, and a triple is there exactly if some edge of the list has
-- it
pub record IsOpened (c : Config) : Type 0 where
  pub vertices : (v : ℕ) → IsVertex (opening c) v ↔ ((1 ≤ v) × (v ≤ principal_count c))
  pub subjects : (v : ℕ) → IsVertex (opening c) v → vertex (opening c) v ≡ Some (record { kind = kind.Subject; text = [] })
  pub next : (opening c).next ≡ c.next
  pub names : map_list (λ m. m.name) (opening c).names ≡ c.principals.items
  pub serials : (before after : List Member) (m : Member) → (opening c).names ≡ before ++ m ∷ after → m.serial ≡ length before + 1
  pub unretired : (v : ℕ) → has_retired (opening c) v ≡ false
  pub triples : (t : Triple) →
      (set.contains (opening c).triples t ≡ true) ↔ ((e : ListedEdge) × Contains c.edges.items e × (e.0 ≡ t.from) × (e.2 ≡ t.to) × (has e.1 t.right ≡ true))

abbrev pub OpeningsAreAsListed : Type 0
OpeningsAreAsListed = (c : Config) → IsOpened c

-- the edge list of a vertex has each vertex over which it has rights, with the label and nothing else, by rising serial
pub record IsEdgeList (G : Protection) (z : ℕ) : Type 0 where
  pub edges : (y : ℕ) (l : Letters) → Contains (edges_of G z) (y, l) ↔ ((l ≡ label G z y) × IsEdge G z y)
  pub rising : IsTrue (is_sorted nat_cmp (edges_of G z))

abbrev pub EdgesAreListed : Type 0
EdgesAreListed = (G : Protection) (z : ℕ) → IsGraph G → IsEdgeList G z

-- the number of edges changes by the one edge whose label changes; a new vertex adds one
pub record CountsEdges (G : Protection) (x : ℕ) (α : Letters) : Type 0 where
  pub joined : (y : ℕ) → IsVertex G y →
      edge_count (record G { triples = set.union G.triples (edge x α y) }) + edges_at (label G x y) ≡ edge_count G + edges_at (joined_rights (label G x y) α)
  pub taken : (y : ℕ) → IsVertex G y →
      edge_count (record G { triples = set.difference G.triples (edge x α y) }) + edges_at (label G x y) ≡ edge_count G + edges_at (without (label G x y) α)
  pub made : (e : Vertex) (name : Option (List ℕ)) → is_none α ≡ false →
      edge_count (record G {
        vertices = map.insert G.vertices G.next e;
        next = G.next + 1;
        triples = set.union G.triples (edge x α G.next);
        names = with_member G.names name G.next;
      }) ≡ edge_count G + 1

abbrev pub EdgesAreCounted : Type 0
EdgesAreCounted = (G : Protection) (x : ℕ) (α : Letters) → IsGraph G → IsVertex G x → CountsEdges G x α

-- some element of the list occurs before one that the test finds the same
pub record OccursTwice {X : Type 0} (same : X → X → Bool) (xs : List X) : Type 0 where
  pub before : List X
  pub first : X
  pub between : List X
  pub again : X
  pub after : List X
  pub is : xs ≡ before ++ first ∷ (between ++ again ∷ after)
  pub alike : IsTrue (same first again)

-- a pair of vertices, or a name, is found twice exactly if it occurs at two places of the list
abbrev pub TwiceIsTwoPlaces : Type 0
TwiceIsTwoPlaces =
    ((es : List ListedEdge) → (has_twice same_pair es ≡ true) ↔ OccursTwice same_pair es)
    × ((names : List (List ℕ)) → (has_twice same_name names ≡ true) ↔ OccursTwice same_name names)

-- that two replies are the same goes both ways, and a denial is the same as itself alone
abbrev pub DenialsAreTheSame : Type 0
DenialsAreTheSame = (a b : Reply) → SameReply a b → SameReply b a × ((r : Rule) (why : Cause) → a ≡ reply.Denied r why → b ≡ reply.Denied r why)
