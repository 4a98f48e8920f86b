-- What is written for a yes: a derivation that is read back, and that leads to the goal.
use Rattle.std.proofs.Common.{◌≡◌, ◌<◌, ℕ, List, [], ◌∷◌, ◌++◌, Some, None, Bool, true, false, refl, sym, ap, subst, ◌∙◌, append_assoc}
use Rattle.std.specs.Prelude.{IsTrue, Ok, Option}
use Rattle.std.specs.List.{cons_option}
use Rattle.std.specs.Option.{is_some, option_map}
use Rattle.std.proofs.lemmas.Grind.{flat_map-append}
use Rattle.tg_rights.specs.Promise.Letters.{Letters, includes, is_none}
use Rattle.tg_rights.specs.declared.kind.Kind.TheVariants as kind
use Rattle.tg_rights.specs.declared.command.Command.{Command}
use Rattle.tg_rights.specs.declared.command.Command.TheVariants as command
use Rattle.tg_rights.specs.declared.outcome.Outcome.{Outcome}
use Rattle.tg_rights.specs.declared.outcome.Outcome.TheVariants as outcome
use Rattle.tg_graph.specs.declared.derivation.Goal.{Goal}
use Rattle.tg_graph.specs.declared.derivation.Step.{Step}
use Rattle.tg_graph.specs.Promise.Derivations.{CanShare, Derives, IsShared}
use Rattle.tg_graph.specs.declared.vertex.Vertex.{Vertex}
use Rattle.tg_graph.specs.Promise.Laws.{OpeningsAreAsListed, PrincipalsComeAndGo}
use Rattle.tg_graph.specs.Promise.Protection.{IsGraph, IsVertex, Protection, has_retired, kind_of, named, vertex}
use Rattle.tg_graph.specs.Promise.Rewriting.{DerivationsCarryOver, HasRightsOf, rewriting, rewriting_steps}
use Rattle.tg_graph.specs.Promise.Rules.{last_serial}
use Rattle.tg_graph.proofs.RewritingLemmas.{same_label}
use Rattle.tg_graph.proofs.VertexLemmas.{IsVertex-from_kind}
use Rattle.tg_vault.specs.declared.entry.Entry.{Entry}
use Rattle.tg_vault.specs.Promise.Contents.{Contents, graph_now}
use Rattle.tg_vault.specs.Promise.History.{Legal}
use Rattle.tg_audit.specs.Promise.Derived.{HistoriesDerive, derivation_of, rewriting_of}
use Rattle.tg_wire.specs.Promise.Lines.{config_of, goal_of}
use Rattle.tg_wire.specs.Promise.StepLines.{goal_line, goal_text, step_line}
use Rattle.tg_sharing.specs.Promise.Lookups.{AreListed, RunsOut}
use Rattle.tg_wire.specs.Promise.Faults.{fault_line}
use Rattle.tg_wire.specs.declared.fault.WireFault.TheVariants as wire
use Rattle.tg_wire.specs.Promise.Unshared.{could_line, unshared_line}
use Rattle.tg_wire.specs.Inner.Unshared.{is_error}
use Rattle.tg_wire.specs.declared.unshared.Unshared.{Unshared}
use Rattle.tg_wire.specs.declared.unshared.Unshared.TheVariants.{Never, NoRights, NoSerial, TooMuch}
use Rattle.tg_talk.specs.Promise.Opening.{OpensVault}
use Rattle.tg_talk.specs.declared.fault.TalkFault.{TalkFault}
use Rattle.tgdoc.specs.Inner.Asked.{AreRewritten, FoundSteps}
use Rattle.tgdoc.specs.Promise.Audits.{OpensGraph}
use Rattle.tgdoc.specs.Promise.Drawings.{is_broken}
use Rattle.tgdoc.specs.Promise.Lookups as lookups
use Rattle.tgdoc.specs.Promise.Lookups.{LookedUp, TakesMore, are_listed, goal_with, no_rights, nobody, not_listed, too_much}
use Rattle.tgdoc.specs.Promise.Named.{Names, NamesNone}
use Rattle.tgdoc.specs.Promise.Sharing.{Answered, AnsweredPair, AreRead, IsGoalOf, Shows, ShowsSharing, ShowsSteps, never, no_from, no_serial, no_to, not_answered, shared, steps_text}
use Rattle.tgdoc.specs.declared.question.Lookup.{Lookup}
use Rattle.tgdoc.specs.declared.question.Pair.{Pair}
use Rattle.tgdoc.specs.declared.question.Question.{Question}
use Rattle.tgdoc.specs.declared.question.Question.TheVariants as question

-- what is by one of the four rules stays as it is
abbrev IsFixed : Option Command → Type 0
IsFixed None = Unit {0}
IsFixed (Some d) = rewriting d ≡ Some d

fixed : (c : Command) → IsFixed (rewriting c)
fixed (command.Take α over from) = refl
fixed (command.Grant α over to) = refl
fixed (command.Create k α) = refl
fixed (command.Remove α over) = refl
fixed (command.Enrol name α) = refl
fixed _ = tt

begun : (x : ℕ) (o : Option Command) (rest : List Step) → IsFixed o → AreRewritten rest → AreRewritten (cons_option (option_map (λ c. record { actor = x; command = c }) o) rest)
begun x None rest h all = all
begun x (Some c) rest h all = (h, all)

pub steps_rewritten : (steps : List Step) → AreRewritten (rewriting_steps steps)
steps_rewritten [] = tt
steps_rewritten (s ∷ ss) = begun s.actor (rewriting s.command) (rewriting_steps ss) (fixed s.command) (steps_rewritten ss)

entry_begun : (s : Step) (o : Outcome) (rest : List Step) → AreRewritten rest → AreRewritten (cons_option (rewriting_of s o) rest)
entry_begun s outcome.Allowed rest all = begun s.actor (rewriting s.command) rest (fixed s.command) all
entry_begun s _ rest all = all

pub history_rewritten : (entries : List Entry) → AreRewritten (derivation_of entries)
history_rewritten [] = tt
history_rewritten (e ∷ es) = entry_begun (record { actor = e.actor; command = e.command }) e.outcome (derivation_of es) (history_rewritten es)

read_both : (xs ys : List Step) → AreRead xs → AreRead ys → AreRead (xs ++ ys)
read_both [] ys h k = k
read_both (x ∷ xs) ys h k = (h.0, read_both xs ys h.1 k)

derives_on : (G H K : Protection) (xs ys : List Step) → Derives G xs H → Derives H ys K → Derives G (xs ++ ys) K
derives_on G H K [] ys first then = subst (λ F. Derives F ys K) first then
derives_on G H K (x ∷ xs) ys first then = (first.0, first.1, derives_on first.0 H K xs ys first.2 then)

shared_alike : (H G : Protection) (goal : Goal) → HasRightsOf H G → IsShared G goal → IsShared H goal
shared_alike H G goal h there = subst (λ l. IsTrue (includes l goal.rights)) (sym (same_label H G h goal.from goal.to)) there

-- steps that lead to the goal, carried over to a graph with the same rights
abbrev Leads : Protection → Goal → List Step → Type 0
Leads H goal steps = (reached : Protection) × Derives H steps reached × IsShared reached goal

leads : DerivationsCarryOver → (G H : Protection) (goal : Goal) (steps : List Step) → FoundSteps G goal steps → HasRightsOf H G → Leads H goal (rewriting_steps steps)
leads law G H goal steps found h =
    let there = law G found.0 H steps h found.1 in
    (there.0, there.1, shared_alike there.0 found.0 goal there.2 found.2)

pub steps_shown : DerivationsCarryOver → (G : Protection) (goal : Goal) (steps found : List Step) (text : List ℕ) → FoundSteps G goal steps → found ≡ rewriting_steps steps → text ≡ steps_text found → AreRead found →
    ShowsSteps G goal text
steps_shown law G goal steps found text leading is written read = record {
  steps = found;
  is = written;
  read = read;
  leads = λ H h. subst (Leads H goal) (sym is) (leads law G H goal steps leading h);
}

itself : OpeningsAreAsListed → (G : Protection) (first : List ℕ) → OpensGraph G first → HasRightsOf G G
itself law G first opens = record {
  kinds = λ v. refl;
  next = refl;
  triples = refl;
  unretired = λ v. ap (λ F. has_retired F v) opens.opens ∙ (law opens.config).unretired v;
}

pub sharing_shown : DerivationsCarryOver → HistoriesDerive → OpeningsAreAsListed → (v : Contents) (first : List ℕ) (goal : Goal) (steps before found : List Step) (head middle text : List ℕ)
    → IsGraph v.opening → Legal v.limits v.opening v.history (graph_now v) → OpensGraph v.opening first → goal_of (goal_text goal) ≡ Ok goal
    → FoundSteps (graph_now v) goal steps → found ≡ rewriting_steps steps → before ≡ derivation_of v.history
    → head ≡ first ++ 10 ∷ goal_line goal → middle ≡ head ++ steps_text before → text ≡ middle ++ steps_text found → AreRead before → AreRead found → ShowsSharing v.opening goal text
sharing_shown carry derive listed v first goal steps before found head middle text graph legal opens aims leading is past begins goes_on ends read_before read_found =
    let start = derive v v.opening graph legal (itself listed v.opening first opens) in
    let end = subst (Leads start.0 goal) (sym is) (leads carry (graph_now v) start.0 goal steps leading start.2) in
    record {
      first = first;
      steps = before ++ found;
      reached = end.0;
      is = ends ∙ (λ i. (goes_on ∙ ap (λ h. h ++ steps_text before) begins) i ++ steps_text found) ∙ append_assoc (first ++ 10 ∷ goal_line goal) (steps_text before) (steps_text found)
          ∙ ap (λ l. (first ++ 10 ∷ goal_line goal) ++ l) (sym (flat_map-append step_line before found)) ∙ append_assoc first (10 ∷ goal_line goal) (steps_text (before ++ found));
      opens = opens;
      aims = aims;
      read = read_both before found read_before read_found;
      derived = derives_on v.opening start.0 end.0 before found (subst (λ l. Derives v.opening l start.0) (sym past) start.1) end.1;
      shared = end.2;
    }

-- what is of no kind is no vertex, and a name finds one
pub no_vertex_there : (G : Protection) (n : ℕ) → kind_of G n ≡ None → IsVertex G n → ⊥
no_vertex_there G n none there = known (vertex G n) none there where
  known : (o : Option Vertex) → option_map (λ e. e.kind) o ≡ None → is_some o ≡ true → ⊥
  known None e h = absurd (cc h)
  known (Some v) e h = absurd (cc e)

pub named_there : PrincipalsComeAndGo → (G : Protection) (name : List ℕ) (x : ℕ) → IsGraph G → named G name ≡ Some x → IsVertex G x
named_there law G name x graph found = IsVertex-from_kind G x kind.Subject (graph.roll.subjects (record { name = name; serial = x }) (((law G x graph).found name x).0 found))

-- a fault that ended nothing is none of those by which the reader, the writer or memory ends a run
pub not_broken : (f : Option TalkFault) → is_some f ≡ false → is_broken f ≡ false
not_broken None h = refl
not_broken (Some fault) h = absurd (cc h)

-- ---- the answer to a question

told_as : (v : Contents) (q : Pair) (text line : List ℕ) (b c : Bool) → text ≡ line → b ≡ c → AnsweredPair v q line c → AnsweredPair v q text b
told_as v q text line b c is same answered = subst (λ (p : List ℕ × Bool). AnsweredPair v q p.0 p.1) (λ i. (sym is i, sym same i)) answered

-- what is told by an answer without steps
abbrev Tells : Unshared → List ℕ → Bool → Type 0
Tells u text b = (text ≡ unshared_line u) × (b ≡ is_error u)

module _ (v : Contents) (q : Pair) (G : Protection) (same : G ≡ graph_now v) (text : List ℕ) (b : Bool) where
  pub no_from_told : (u : Unshared) → NamesNone G q.from (unshared_line u) → is_error u ≡ true → Tells u text b → AnsweredPair v q text b
  no_from_told u none error told =
      told_as v q text (unshared_line u) b true told.0 (told.1 ∙ error) (no_from (subst (λ F. NamesNone F q.from (unshared_line u)) same none))

  pub no_to_told : (x : ℕ) (u : Unshared) → Names G q.from x → NamesNone G q.to (unshared_line u) → is_error u ≡ true → Tells u text b → AnsweredPair v q text b
  no_to_told x u from none error told =
      told_as v q text (unshared_line u) b true told.0 (told.1 ∙ error)
      (no_to x (subst (λ F. Names F q.from x) same from) (subst (λ F. NamesNone F q.to (unshared_line u)) same none))

  module _ (x y : ℕ) (from : Names G q.from x) (to : Names G q.to y) where
    abbrev its_goal : Goal
    its_goal = record { from = x; to = y; rights = q.rights }

    its_goal-is : IsGoalOf (graph_now v) q its_goal
    its_goal-is = record { from = subst (λ F. Names F q.from x) same from; to = subst (λ F. Names F q.to y) same to; rights = refl }

    pub never_told : (CanShare G its_goal → ⊥) → Tells Never text b → AnsweredPair v q text b
    never_told impossible told =
        told_as v q text (unshared_line Never) b false told.0 told.1 (never its_goal its_goal-is (subst (λ F. CanShare F its_goal → ⊥) same impossible) refl)

    pub no_serial_told : (steps : List Step) → (reached : Protection) × Derives G steps reached × (last_serial < reached.next) → Tells NoSerial text b → AnsweredPair v q text b
    no_serial_told steps none told =
        told_as v q text (unshared_line NoSerial) b false told.0 told.1
        (no_serial its_goal steps none.0 its_goal-is (subst (λ F. Derives F steps none.0) same none.1) none.2 refl)

    pub shared_told : Shows q.steps v its_goal text → AnsweredPair v q text false
    shared_told shows = shared its_goal its_goal-is shows

  pub found_there : (goal : Goal) (steps items : List Step) → items ≡ steps → FoundSteps G goal steps → FoundSteps (graph_now v) goal items
  found_there goal steps items is found = subst (λ (p : Protection × List Step). FoundSteps p.0 goal p.1) (λ i. (same i, sym is i)) found

-- the line that opened a vault opens the graph of each vault with that opening
pub opens_graph : (v : Contents) (line first : List ℕ) (G : Protection) → OpensVault line v → G ≡ v.opening → first ≡ line → OpensGraph G first
opens_graph v line first G opens kept same = record {
  config = opens.config;
  read = ap config_of same ∙ opens.read;
  sound = opens.sound;
  opens = kept ∙ opens.fresh.opening;
}

-- no memory for the answer to a question of either kind
pub no_memory : (v : Contents) (q : Question) (text : List ℕ) → text ≡ fault_line wire.OutOfMemory → Answered v q text true
no_memory v (question.Pair pair) text is = not_answered is
no_memory v (question.Lookup lookup) text is = not_listed is

pub pair_answered : (v : Contents) (q : Question) (pair : Pair) (text : List ℕ) (b : Bool) → q ≡ question.Pair pair → AnsweredPair v pair text b → Answered v q text b
pair_answered v q pair text b is answered = subst (λ (r : Question). Answered v r text b) (sym is) answered

pub lookup_answered : (v : Contents) (q : Question) (lookup : Lookup) (text : List ℕ) (b : Bool) → q ≡ question.Lookup lookup → LookedUp (graph_now v) lookup text b → Answered v q text b
lookup_answered v q lookup text b is answered = subst (λ (r : Question). Answered v r text b) (sym is) answered

-- ---- the answer to a lookup

module _ (H G : Protection) (same : H ≡ G) (q : Lookup) (text line : List ℕ) (b c : Bool) (is : text ≡ line) (counts : b ≡ c) where
  looked_up : LookedUp H q line c → LookedUp G q text b
  looked_up answered = subst (λ (p : Protection × List ℕ × Bool). LookedUp p.0 q p.1 p.2) (λ i. (same i, sym is i, sym counts i)) answered

module _ (H G : Protection) (same : H ≡ G) (q : Lookup) (text : List ℕ) (b : Bool) where
  pub nobody_told : (u : Unshared) → NamesNone H q.vertex (unshared_line u) → is_error u ≡ true → Tells u text b → LookedUp G q text b
  nobody_told u none error told = looked_up H G same q text (unshared_line u) b true told.0 (told.1 ∙ error) (nobody none)

  pub no_rights_told : is_none q.rights ≡ true → Tells NoRights text b → LookedUp G q text b
  no_rights_told none told = looked_up H G same q text (unshared_line NoRights) b true told.0 told.1 (no_rights none refl)

  pub too_much_told : TakesMore q.end H q.most → Tells TooMuch text b → LookedUp G q text b
  too_much_told more told = looked_up H G same q text (unshared_line TooMuch) b true told.0 told.1 (too_much more refl)

  pub runs_out_told : RunsOut H → Tells NoSerial text b → LookedUp G q text b
  runs_out_told out told = looked_up H G same q text (unshared_line NoSerial) b false told.0 told.1 (lookups.no_serial out refl)

  pub could_told : (x : ℕ) (could : List (ℕ × Letters)) → Names H q.vertex x → AreListed H (goal_with q.end q.rights x) could → (text ≡ could_line could) × (b ≡ false) → LookedUp G q text b
  could_told x could named are told = looked_up H G same q text (could_line could) b false told.0 told.1 (are_listed x could named are refl)
