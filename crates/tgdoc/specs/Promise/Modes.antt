-- what the words of a command line ask for
use Rattle.std.specs.Prelude.{◌≡◌, ℕ, ◌≤◌, List, [], ◌∷◌, Option, IfSome, codes}
use Rattle.clap.specs.declared.error.kind.ErrorKind.{ErrorKind}
use Rattle.clap.specs.declared.error.kind.ErrorKind.TheVariants.{DisplayHelp, DisplayVersion}
use Rattle.tg_serve.specs.declared.operating.Operating.{Operating}
use Rattle.tgdoc.specs.declared.modes.Mode.{Mode}
use Rattle.tgdoc.specs.declared.modes.Mode.TheVariants.{Run, Audit, Draw, Serve, Share, Control}

-- the word of a mode
abbrev pub word_of : Mode → List ℕ
word_of Run = codes "run"
word_of Audit = codes "audit"
word_of (Draw each) = codes "draw"
word_of (Share question) = codes "share"
word_of (Serve listen workers connections round operation) = codes "serve"
word_of (Control path request) = codes "control"

-- a mode that takes no words of its own
abbrev pub HasNoWords : Mode → Type 0
HasNoWords Run = Unit {0}
HasNoWords Audit = Unit {0}
HasNoWords (Draw each) = ⊥
HasNoWords (Share question) = ⊥
HasNoWords (Serve listen workers connections round operation) = ⊥
HasNoWords (Control path request) = ⊥

-- the seconds for which a server may wait, if there is a number
abbrev pub IsPatience : Option ℕ → Type 0
IsPatience seconds = IfSome seconds (λ s. (1 ≤ s) × (s ≤ 86400))

-- the bytes that a round may keep, if there is a number
abbrev pub IsMemory : Option ℕ → Type 0
IsMemory bytes = IfSome bytes (λ b. (1 ≤ b) × (b ≤ 1099511627776))

-- the bounds of a server are in their ranges
pub record AreBounds (operating : Operating) : Type 0 where
  pub waits : IsPatience operating.patience
  pub keeps : IsMemory operating.memory

-- the numbers of a server are in their ranges
pub record AreInRange (workers connections round : ℕ) (operating : Operating) : Type 0 where
  pub some_workers : 1 ≤ workers
  pub few_workers : workers ≤ 63
  pub some_connections : 1 ≤ connections
  pub few_connections : connections ≤ 1000000
  pub some_in_a_round : 1 ≤ round
  pub few_in_a_round : round ≤ 1000000
  pub bounds : AreBounds operating

-- the numbers of a mode are in their ranges
abbrev pub IsInRange : Mode → Type 0
IsInRange Run = Unit {0}
IsInRange Audit = Unit {0}
IsInRange (Draw each) = Unit {0}
IsInRange (Share question) = Unit {0}
IsInRange (Serve listen workers connections round operation) = AreInRange workers connections round operation.operating
IsInRange (Control path request) = Unit {0}

-- no word is left, or `--` alone, which says that no option follows
pub data IsEnd (words : List (List ℕ)) : Type 0 where
  nothing : words ≡ [] → IsEnd words
  dashes : words ≡ codes "--" ∷ [] → IsEnd words

-- the words ask for a mode that takes no words of its own: the first is the program's own name, whatever it is, the
-- second the mode's word, and no more follows
pub record AsksFor (words : List (List ℕ)) (mode : Mode) : Type 0 where
  pub alone : HasNoWords mode
  pub name : List ℕ
  pub rest : List (List ℕ)
  pub are : words ≡ name ∷ word_of mode ∷ rest
  pub ends : IsEnd rest

-- the word after the program's name, whatever that is, is the mode's
pub record NamesMode (words : List (List ℕ)) (mode : Mode) : Type 0 where
  pub name : List ℕ
  pub rest : List (List ℕ)
  pub are : words ≡ name ∷ word_of mode ∷ rest

-- the words ask for a text and for no mode: the version, or help on the program or on a mode; further words are not
-- looked at
pub data AsksText (words : List (List ℕ)) (kind : ErrorKind) : Type 0 where
  version : (name : List ℕ) (rest : List (List ℕ)) → words ≡ name ∷ codes "--version" ∷ rest → kind ≡ DisplayVersion → AsksText words kind
  help : (name : List ℕ) (rest : List (List ℕ)) → words ≡ name ∷ codes "--help" ∷ rest → kind ≡ DisplayHelp → AsksText words kind
  help_on_mode : (name : List ℕ) (mode : Mode) (rest : List (List ℕ)) → words ≡ name ∷ word_of mode ∷ codes "--help" ∷ rest → kind ≡ DisplayHelp → AsksText words kind
