-- how code decides a command: by the terms that it reads off the command, and what it finds on the way
use Rattle.std.specs.Prelude.{◌≡◌, ℕ, true, false, List, [], ◌∷◌, Option, Some, None, ◌⊎◌}
use Rattle.tg_rights.specs.Promise.Letters.{is_none}
use Rattle.tg_rights.specs.declared.kind.Kind.{Kind}
use Rattle.tg_rights.specs.declared.kind.Kind.TheVariants as kind
use Rattle.tg_graph.specs.declared.rules.Need.{Need}
use Rattle.tg_graph.specs.declared.rules.Asked.{Asked}
use Rattle.tg_graph.specs.declared.rules.Terms.{Terms as Read}
use Rattle.tg_graph.specs.Promise.Terms.{Terms}
use Rattle.tg_graph.specs.Promise.Rules.{names_rights}
use Rattle.tg_graph.specs.Promise.Deciding.{shown_effect, LeadTo}

abbrev pub needs_listed : Option Need → Option Need → List Need
needs_listed None then = []
needs_listed (Some n) None = n ∷ []
needs_listed (Some n) (Some m) = n ∷ m ∷ []

-- what was read off a command are its terms
pub record Shows (r : Read) (text : List ℕ) (given : Option (List ℕ)) (t : Terms) : Type 0 where
  pub for_retired : r.asked.for_retired ≡ t.for_retired
  pub names : r.asked.names ≡ t.names
  pub apart : r.asked.apart ≡ t.apart
  pub needs : needs_listed r.asked.first r.asked.then ≡ t.needs
  pub wants : r.asked.wants ≡ t.wants
  pub principal : r.asked.principal ≡ t.principal
  pub name : given ≡ t.name
  pub does : shown_effect r.does text given ≡ t.does

-- at most two needs; the first starts at x, and the second there or where the first leads
abbrev pub NeedsFollow : ℕ → List Need → Type 0
NeedsFollow x [] = Unit {0}
NeedsFollow x (n ∷ []) = n.from ≡ x
NeedsFollow x (n ∷ m ∷ []) = (n.from ≡ x) × ((m.from ≡ x) ⊎ (m.from ≡ n.to))
NeedsFollow x (n ∷ m ∷ o ∷ ns) = ⊥

abbrev pub AskSome : List Need → Type 0
AskSome [] = Unit {0}
AskSome (n ∷ ns) = (is_none n.rights ≡ false) × AskSome ns

-- a principal is a subject
abbrev pub IsSubjectIfNamed : Kind → Option (List ℕ) → Type 0
IsSubjectIfNamed k None = Unit {0}
IsSubjectIfNamed k (Some name) = k ≡ kind.Subject

-- what was read off a command of x is what its terms ask, and is consistent
pub record ReadsTerms (x : ℕ) (a : Asked) (given : Option (List ℕ)) (t : Terms) : Type 0 where
  pub for_retired : a.for_retired ≡ t.for_retired
  pub names : a.names ≡ t.names
  pub apart : a.apart ≡ t.apart
  pub needs : needs_listed a.first a.then ≡ t.needs
  pub wants : a.wants ≡ t.wants
  pub principal : a.principal ≡ t.principal
  pub name : given ≡ t.name
  pub follows : NeedsFollow x (needs_listed a.first a.then)
  pub some : names_rights a.names ≡ true → AskSome (needs_listed a.first a.then)
  pub near : (v : ℕ) (k : Kind) → a.wants ≡ Some (v, k) → LeadTo (needs_listed a.first a.then) v
