-- a flat object: each of its members is a text or a whole number
use Rattle.std.specs.Prelude.{◌≡◌, ℕ, List, [], ◌∷◌, ◌++◌, Some, drop, ⊤}
use Rattle.json.specs.Token as token
use Rattle.json.specs.Token.{Token}
use Rattle.json.specs.Lex as lex
use Rattle.json.specs.Lex.{Lexeme}
use Rattle.serde_json.specs.Data.{Data, unsigned}
use Rattle.serde_json.specs.Read.{number_of}
use Rattle.serde_json.specs.View.{view}
use Rattle.tg_wire.specs.Inner.Keys.{key_text}
use Rattle.tg_wire.specs.Inner.Members.{flat_data}
use Rattle.tg_wire.specs.declared.member.Plain.{Plain}
use Rattle.tg_wire.specs.declared.member.Plain.TheVariants.{Text, Escaped, Number}
use Rattle.tg_wire.specs.declared.member.Member.{Member}
use Rattle.tg_wire.specs.declared.object.LineObject.{LineObject}
use Rattle.tg_wire.specs.declared.object.LineObject.TheVariants as object_by

-- the object of a line, whichever way it was read
abbrev pub data_of : LineObject → Data
data_of (object_by.Flat f) = flat_data f.members.now.list.items
data_of (object_by.Tree v) = view v

-- ---- from the lexemes of a line

-- the token is that of the value
abbrev pub Spells : Token → Plain → Type 0
Spells (token.string s) (Text t) = s ≡ t.text.now
Spells (token.string s) (Escaped t) = s ≡ t.now
Spells (token.number s) (Number n) = number_of s ≡ Some (unsigned n)
Spells _ _ = ⊥

-- keys and the tokens of their values are those of the members
abbrev pub AreSpelled : List (List ℕ × Token) → List Member → Type 0
AreSpelled [] [] = ⊤
AreSpelled [] (m ∷ ms) = ⊥
AreSpelled (k ∷ ks) [] = ⊥
AreSpelled (k ∷ ks) (m ∷ ms) = (k.0 ≡ key_text m.key) × Spells k.1 m.value × AreSpelled ks ms

-- members, each with a comma after it, and then the rest
abbrev pub member_lexemes : List (List ℕ × Token) → List Lexeme → List Lexeme
member_lexemes [] rest = rest
member_lexemes (k ∷ ks) rest = lex.token (token.string k.0) ∷ lex.colon ∷ lex.token k.1 ∷ lex.comma ∷ member_lexemes ks rest

-- their tokens
abbrev pub key_tokens : List (List ℕ × Token) → List Token
key_tokens [] = []
key_tokens (k ∷ ks) = token.key k.0 ∷ k.1 ∷ key_tokens ks

-- the tokens of members up to the end of their object, after which others follow
pub record TakesMembers (tokens after : List Token) (found : List Member) : Type 0 where
  pub keys : List (List ℕ × Token)
  pub spelled : AreSpelled keys found
  pub are : tokens ≡ key_tokens keys ++ token.end_object ∷ after

-- the tokens of an object, and no others
abbrev pub TakesObject : List Token → List Member → Type 0
TakesObject tokens found = (inside : List Token) × TakesMembers inside [] found × (tokens ≡ token.begin_object ∷ inside)

-- the members from one place up to the closing brace before another
pub record ReadsMembers (line : List ℕ) (from after : ℕ) (found : List Member) : Type 0 where
  pub front : List (List ℕ × Token)
  pub key : List ℕ
  pub value : Token
  pub spelled : AreSpelled (front ++ (key, value) ∷ []) found
  pub lexemes : lex.lex lex.between (drop from line) ≡ member_lexemes front (lex.token (token.string key) ∷ lex.colon ∷ lex.token value ∷ lex.token token.end_object ∷ lex.lex lex.between (drop after line))
