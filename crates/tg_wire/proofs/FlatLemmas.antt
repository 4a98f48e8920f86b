-- A flat object: from the lexemes of its members to its value, and what is found in it.
use Rattle.std.proofs.Common.{◌≡◌, ℕ, List, [], ◌∷◌, ◌++◌, Option, Some, None, IfSome, Ordering, Less, Equal, Greater, nat_cmp, is_eq, ◌&&◌, Bool, true, false, true≢false, max, option_map, option_and_then, drop, bytes_eq, refl, sym, ap, ◌∙◌, arith, append-nil}
use Rattle.std.proofs.Math.Bool.{and-true}
use Rattle.std.specs.Prelude.{⊤}
use Rattle.std.specs.List.{list_all}
use Rattle.std.specs.Cmp.Lexicographic.{slice_cmp}
use Rattle.std.specs.Ordering.{match_ordering}
use Rattle.std.proofs.lemmas.Map.Text.{is_eq-slice_cmp}
use Rattle.std.proofs.lemmas.Slice.Eq.{bytes_eq-Decides}
use Rattle.json.specs.Token as token
use Rattle.json.specs.Token.{Token}
use Rattle.json.specs.Lex as lex
use Rattle.json.specs.Lex.{Lexeme, Place, punctuate, tokens}
use Rattle.json.specs.Json as json
use Rattle.json.specs.Tree.{json_tokens, members_tokens, depth, members_depth}
use Rattle.json.proofs.Printed.Trees.{value-json_tokens}
use Rattle.serde_json.specs.Data as datum
use Rattle.serde_json.specs.Data.{Data, object, Members, no_members, member, put}
use Rattle.serde_json.specs.Read.{read, of_json, of_members}
use Rattle.serde_json.specs.Find.{get, get_member, as_array}
use Rattle.serde_json.proofs.Views.{get_member-put, get_member-put_other}
use Rattle.tg_wire.specs.Inner.Flat.{Spells, AreSpelled, member_lexemes, key_tokens, ReadsMembers, TakesObject}
use Rattle.tg_wire.specs.Inner.Members.{plain_data, put_all, flat_data}
use Rattle.tg_wire.specs.Promise.Reading.{is_among, member_keys, knows_all}
use Rattle.tg_wire.specs.Inner.Keys.{key_text, key_texts, is_in_set, is_listed_in_either}
use Rattle.tg_wire.proofs.KeysLemmas.{among_either}
use Rattle.tg_wire.specs.declared.key.Key.{Key}
use Rattle.tg_wire.specs.declared.member.Plain.{Plain}
use Rattle.tg_wire.specs.declared.member.Plain.TheVariants.{Text, Escaped, Number}
use Rattle.tg_wire.specs.declared.member.Member.{Member}

pub some_weaker : {A : Type 0} (o : Option A) (P Q : A → Type 0) → ((a : A) → P a → Q a) → IfSome o P → IfSome o Q
some_weaker None P Q f h = tt
some_weaker (Some a) P Q f h = f a h

-- ---- one more member

pub spelled_more : (ks : List (List ℕ × Token)) (ms : List Member) (k : List ℕ) (t : Token) (m : Member) → AreSpelled ks ms → k ≡ key_text m.key → Spells t m.value → AreSpelled (ks ++ (k, t) ∷ []) (ms ++ m ∷ [])
spelled_more [] [] k t m h same is = (same, is, tt)
spelled_more [] (x ∷ ms) k t m h same is = absurd h
spelled_more (x ∷ ks) [] k t m h same is = absurd h
spelled_more (x ∷ ks) (y ∷ ms) k t m h same is = (h.0, h.1, spelled_more ks ms k t m h.2 same is)

pub lexemes_more : (ks : List (List ℕ × Token)) (k : List ℕ) (t : Token) (rest : List Lexeme)
    → member_lexemes ks (lex.token (token.string k) ∷ lex.colon ∷ lex.token t ∷ lex.comma ∷ rest) ≡ member_lexemes (ks ++ (k, t) ∷ []) rest
lexemes_more [] k t rest = refl
lexemes_more (x ∷ ks) k t rest = ap (λ ls. lex.token (token.string x.0) ∷ lex.colon ∷ lex.token x.1 ∷ lex.comma ∷ ls) (lexemes_more ks k t rest)

-- ---- from lexemes to tokens

-- key_texts and numbers
abbrev AreScalars : List (List ℕ × Token) → Type 0
AreScalars [] = ⊤
AreScalars (k ∷ ks) = ((v : Plain) × Spells k.1 v) × AreScalars ks

scalars : (ks : List (List ℕ × Token)) (ms : List Member) → AreSpelled ks ms → AreScalars ks
scalars [] ms h = tt
scalars (k ∷ ks) [] h = absurd h
scalars (k ∷ ks) (m ∷ ms) h = ((m.value, h.1), scalars ks ms h.2)

last_tokens : (p : Place) (k : List ℕ) (t : Token) (v : Plain) → lex.may_begin p ≡ true → Spells t v
    → punctuate p (lex.token (token.string k) ∷ lex.colon ∷ lex.token t ∷ lex.token token.end_object ∷ []) ≡ token.key k ∷ t ∷ token.end_object ∷ []
unfolding punctuate
last_tokens lex.fresh k (token.string s) (Text x) may is = refl
last_tokens lex.fresh k (token.string s) (Escaped x) may is = refl
last_tokens lex.fresh k (token.number s) (Number x) may is = refl
last_tokens lex.after_comma k (token.string s) (Text x) may is = refl
last_tokens lex.after_comma k (token.string s) (Escaped x) may is = refl
last_tokens lex.after_comma k (token.number s) (Number x) may is = refl
last_tokens lex.after_value k t v may is = absurd (cc)
last_tokens lex.after_key k t v may is = absurd (cc)
last_tokens p k t v may is = absurd is

more_tokens : (p : Place) (k : List ℕ) (t : Token) (v : Plain) (rest : List Lexeme) → lex.may_begin p ≡ true → Spells t v
    → punctuate p (lex.token (token.string k) ∷ lex.colon ∷ lex.token t ∷ lex.comma ∷ rest) ≡ token.key k ∷ t ∷ punctuate lex.after_comma rest
unfolding punctuate
more_tokens lex.fresh k (token.string s) (Text x) rest may is = refl
more_tokens lex.fresh k (token.string s) (Escaped x) rest may is = refl
more_tokens lex.fresh k (token.number s) (Number x) rest may is = refl
more_tokens lex.after_comma k (token.string s) (Text x) rest may is = refl
more_tokens lex.after_comma k (token.string s) (Escaped x) rest may is = refl
more_tokens lex.after_comma k (token.number s) (Number x) rest may is = refl
more_tokens lex.after_value k t v rest may is = absurd (cc)
more_tokens lex.after_key k t v rest may is = absurd (cc)
more_tokens p k t v rest may is = absurd is

members_tokens_at : (p : Place) (ks : List (List ℕ × Token)) (k : List ℕ) (t : Token) → lex.may_begin p ≡ true → AreScalars (ks ++ (k, t) ∷ [])
    → punctuate p (member_lexemes ks (lex.token (token.string k) ∷ lex.colon ∷ lex.token t ∷ lex.token token.end_object ∷ [])) ≡ key_tokens (ks ++ (k, t) ∷ []) ++ token.end_object ∷ []
members_tokens_at p [] k t may are = last_tokens p k t are.0.0 may are.0.1
members_tokens_at p (x ∷ ks) k t may are =
    more_tokens p x.0 x.1 are.0.0 _ may are.0.1 ∙ ap (λ ts. token.key x.0 ∷ x.1 ∷ ts) (members_tokens_at lex.after_comma ks k t refl are.1)

object_tokens : (line : List ℕ) (ls : List Lexeme) → lex.lex lex.between line ≡ lex.token token.begin_object ∷ ls → tokens line ≡ token.begin_object ∷ punctuate lex.fresh ls
unfolding punctuate
object_tokens line ls is = ap (punctuate lex.fresh) is

-- ---- from tokens to a value

abbrev leaf : Token → json.Json
leaf (token.string s) = json.string s
leaf (token.number s) = json.number s
leaf _ = json.null

abbrev members_of : List (List ℕ × Token) → json.Members
members_of [] = json.no_members
members_of (k ∷ ks) = json.member k.0 (leaf k.1) (members_of ks)

leaf_tokens : (t : Token) (v : Plain) → Spells t v → json_tokens (leaf t) ≡ t ∷ []
leaf_tokens (token.string s) v is = refl
leaf_tokens (token.number s) v is = refl
leaf_tokens t v is = absurd is

members_tokens_of : (ks : List (List ℕ × Token)) → AreScalars ks → members_tokens (members_of ks) ≡ key_tokens ks ++ token.end_object ∷ []
members_tokens_of [] are = refl
members_tokens_of (k ∷ ks) are =
    ap (λ ts. token.key k.0 ∷ (ts ++ members_tokens (members_of ks))) (leaf_tokens k.1 are.0.0 are.0.1) ∙ ap (λ ts. token.key k.0 ∷ k.1 ∷ ts) (members_tokens_of ks are.1)

leaf_depth : (t : Token) → depth (leaf t) ≡ 0
leaf_depth (token.string s) = refl
leaf_depth (token.number s) = refl
leaf_depth t = refl

depth_of : (ks : List (List ℕ × Token)) → members_depth (members_of ks) ≡ 0
depth_of [] = refl
depth_of (k ∷ ks) = ap (λ n. max n (members_depth (members_of ks))) (leaf_depth k.1) ∙ ap (max 0) (depth_of ks)

leaf_value : (t : Token) (v : Plain) → Spells t v → of_json (leaf t) ≡ Some (plain_data v)
leaf_value (token.string s) (Text x) is = ap (λ b. Some (datum.string b)) is
leaf_value (token.string s) (Escaped x) is = ap (λ b. Some (datum.string b)) is
leaf_value (token.number s) (Number n) is = ap (option_map datum.number) is
leaf_value t v is = absurd is

values_of : (ks : List (List ℕ × Token)) (ms : List Member) (found : Members) → AreSpelled ks ms → of_members (members_of ks) found ≡ Some (put_all ms found)
values_of [] [] found h = refl
values_of [] (m ∷ ms) found h = absurd h
values_of (k ∷ ks) [] found h = absurd h
values_of (k ∷ ks) (m ∷ ms) found h =
    ap (option_and_then (λ d. of_members (members_of ks) (put k.0 d found))) (leaf_value k.1 m.value h.1)
    ∙ ap (λ name. of_members (members_of ks) (put name (plain_data m.value) found)) h.0 ∙ values_of ks ms (put (key_text m.key) (plain_data m.value) found) h.2

abbrev whole : Option (json.Json × List Token) → Option Data
whole o = option_and_then of_json (option_and_then (λ p. json.if_last p.0 p.1) o)

-- the line of these tokens
tokens_read : (line : List ℕ) (ks : List (List ℕ × Token)) (ms : List Member) → AreSpelled ks ms → tokens line ≡ token.begin_object ∷ (key_tokens ks ++ token.end_object ∷ []) → read line ≡ Some (flat_data ms)
tokens_read line ks ms spelled is =
    let are = scalars ks ms spelled in
    let j = json.object (members_of ks) in
    let tokens_are : tokens line ≡ json_tokens j ++ [] = is ∙ ap (λ ts. token.begin_object ∷ ts) (sym (members_tokens_of ks are)) ∙ sym (append-nil (json_tokens j)) in
    ap whole (ap (json.value 127) tokens_are ∙ value-json_tokens j 127 [] (omega (arith, depth_of ks))) ∙ ap (option_map object) (values_of ks ms no_members spelled)

pub object_read : (line : List ℕ) (ms : List Member) → TakesObject (tokens line) ms → read line ≡ Some (flat_data ms)
object_read line ms (inside, took, is) = tokens_read line took.keys ms took.spelled (is ∙ ap (λ ts. token.begin_object ∷ ts) took.are)

pub key_tokens_more : (ks : List (List ℕ × Token)) (k : List ℕ) (t : Token) (rest : List Token) → key_tokens ks ++ token.key k ∷ t ∷ rest ≡ key_tokens (ks ++ (k, t) ∷ []) ++ rest
key_tokens_more [] k t rest = refl
key_tokens_more (x ∷ ks) k t rest = ap (λ ts. token.key x.0 ∷ x.1 ∷ ts) (key_tokens_more ks k t rest)

-- the whole line, if its members are read and nothing follows
pub line_read : (line : List ℕ) (from after : ℕ) (ms : List Member) → lex.lex lex.between line ≡ lex.token token.begin_object ∷ lex.lex lex.between (drop from line)
    → ReadsMembers line from after ms → lex.lex lex.between (drop after line) ≡ [] → read line ≡ Some (flat_data ms)
line_read line from after ms opens found over =
    let ks = found.front ++ (found.key, found.value) ∷ [] in
    let are = scalars ks ms found.spelled in
    let lexemes = found.lexemes ∙ ap (λ ls. member_lexemes found.front (lex.token (token.string found.key) ∷ lex.colon ∷ lex.token found.value ∷ lex.token token.end_object ∷ ls)) over in
    tokens_read line ks ms found.spelled (object_tokens line _ opens ∙ ap (λ ls. token.begin_object ∷ punctuate lex.fresh ls) lexemes
    ∙ ap (λ ts. token.begin_object ∷ ts) (members_tokens_at lex.fresh found.front found.key found.value refl are))

-- ---- no list is found

no_list_in : (v : Plain) → as_array (plain_data v) ≡ None
no_list_in (Text t) = refl
no_list_in (Escaped t) = refl
no_list_in (Number n) = refl

no_list_put : (b : Bool) (k name : List ℕ) (v : Plain) (found : Members) → bytes_eq k name ≡ b → option_and_then as_array (get_member name found) ≡ None
    → option_and_then as_array (get_member name (put k (plain_data v) found)) ≡ None
no_list_put true k name v found is none =
    ap (λ n. option_and_then as_array (get_member name (put n (plain_data v) found))) ((bytes_eq-Decides k name).0 is)
    ∙ ap (option_and_then as_array) (get_member-put name (plain_data v) found) ∙ no_list_in v
no_list_put false k name v found is none =
    ap (option_and_then as_array) (get_member-put_other name k (plain_data v) found (λ e. true≢false (sym ((bytes_eq-Decides k name).1 (sym e)) ∙ is))) ∙ none

no_list_all : (ms : List Member) (name : List ℕ) (found : Members) → option_and_then as_array (get_member name found) ≡ None → option_and_then as_array (get_member name (put_all ms found)) ≡ None
no_list_all [] name found none = none
no_list_all (m ∷ ms) name found none = no_list_all ms name _ (no_list_put (bytes_eq (key_text m.key) name) (key_text m.key) name m.value found refl none)

pub flat_no_list : (ms : List Member) (name : List ℕ) → None ≡ option_and_then as_array (get name (flat_data ms))
flat_no_list ms name = sym (no_list_all ms name no_members refl)

-- ---- its keys

and_twice : (a b : Bool) → (a && b) ≡ (a && (a && b))
and_twice true b = refl
and_twice false b = refl

and_swap : (a b c : Bool) → (a && (b && c)) ≡ (b && (a && c))
and_swap true b c = refl
and_swap false true c = refl
and_swap false false c = refl

and_in : (a b c : Bool) → (a && (b && c)) ≡ ((b && a) && c)
and_in true true c = refl
and_in true false c = refl
and_in false true c = refl
and_in false false c = refl

module _ (P : List ℕ → Bool) where
  keys_put_at : (o : Ordering) (k l : List ℕ) (d e : Data) (ms : Members) → slice_cmp nat_cmp k l ≡ o → list_all P (member_keys (put k d ms)) ≡ (P k && list_all P (member_keys ms))
      → list_all P (member_keys (match_ordering o (member k d (member l e ms)) (member l d ms) (member l e (put k d ms)))) ≡ (P k && (P l && list_all P (member_keys ms)))
  keys_put_at Less k l d e ms is later = refl
  keys_put_at Equal k l d e ms is later =
      let same : k ≡ l = (bytes_eq-Decides k l).0 (sym (is_eq-slice_cmp k l) ∙ ap is_eq is) in
      and_twice (P l) (list_all P (member_keys ms)) ∙ ap (λ x. P x && (P l && list_all P (member_keys ms))) (sym same)
  keys_put_at Greater k l d e ms is later = ap (λ x. P l && x) later ∙ and_swap (P l) (P k) (list_all P (member_keys ms))

  keys_put : (k : List ℕ) (d : Data) (ms : Members) → list_all P (member_keys (put k d ms)) ≡ (P k && list_all P (member_keys ms))
  keys_put k d no_members = refl
  keys_put k d (member l e ms) = keys_put_at _ k l d e ms refl (keys_put k d ms)

  keys_put_all : (ms : List Member) (found : Members) → list_all P (member_keys (put_all ms found)) ≡ (list_all (λ m. P (key_text m.key)) ms && list_all P (member_keys found))
  keys_put_all [] found = refl
  keys_put_all (m ∷ ms) found =
      keys_put_all ms _ ∙ ap (λ x. list_all (λ m. P (key_text m.key)) ms && x) (keys_put (key_text m.key) (plain_data m.value) found)
      ∙ and_in (list_all (λ m. P (key_text m.key)) ms) (P (key_text m.key)) (list_all P (member_keys found))

all_either : (a b : List Key) (ms : List Member) → list_all (λ m. is_among (key_texts a ++ key_texts b) (key_text m.key)) ms ≡ list_all (λ m. is_listed_in_either a b (key_text m.key)) ms
all_either a b [] = refl
all_either a b (m ∷ ms) = ap (λ x. x && list_all (λ m. is_among (key_texts a ++ key_texts b) (key_text m.key)) ms) (among_either a b (key_text m.key)) ∙ ap (λ x. is_listed_in_either a b (key_text m.key) && x) (all_either a b ms)

-- the keys of a flat object are known if those of its members are
pub flat_known : (a b : List Key) (ms : List Member) → knows_all (key_texts a ++ key_texts b) (flat_data ms) ≡ list_all (λ m. is_listed_in_either a b (key_text m.key)) ms
flat_known a b ms = keys_put_all (is_among (key_texts a ++ key_texts b)) ms no_members ∙ and-true _ ∙ all_either a b ms

-- the same by a set of keys
all_in : (set : ℕ) (names : List (List ℕ)) (ms : List Member) → ((key : Key) → is_in_set set key ≡ is_among names (key_text key))
    → list_all (λ m. is_among names (key_text m.key)) ms ≡ list_all (λ m. is_in_set set m.key) ms
all_in set names [] same = refl
all_in set names (m ∷ ms) same = ap (λ x. x && list_all (λ m. is_among names (key_text m.key)) ms) (sym (same m.key)) ∙ ap (λ x. is_in_set set m.key && x) (all_in set names ms same)

pub flat_known_in : (set : ℕ) (names : List (List ℕ)) (ms : List Member) → ((key : Key) → is_in_set set key ≡ is_among names (key_text key))
    → knows_all names (flat_data ms) ≡ list_all (λ m. is_in_set set m.key) ms
flat_known_in set names ms same = keys_put_all (is_among names) ms no_members ∙ and-true _ ∙ all_in set names ms same
