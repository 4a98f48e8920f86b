-- The keys of an object, and the tests on lists of keys.
use Rattle.std.proofs.Common.{◌≡◌, ℕ, List, [], ◌∷◌, ◌++◌, ◌&&◌, ◌||◌, is_some, Some, String, Global, string_bytes, bytes_eq, refl, sym, ap, ◌∙◌}
use Rattle.std.specs.List.{list_all, list_any}
use Rattle.std.specs.Map.{keys_of}
use Rattle.std.proofs.lemmas.List.Folds.{list_any-append}
use Rattle.serde_json.specs.Data.{Data, Members, null, boolean, number, string, array, object}
use Rattle.serde_json.specs.Find.{get, as_object}
use Rattle.serde_json.specs.View.{members_view}
use Rattle.serde_json.specs.declared.value.Value.{Value}
use Rattle.tg_wire.specs.Inner.Keys.{key_text, key_texts, is_listed, is_listed_in_either}
use Rattle.tg_wire.specs.declared.key.Key.{Key}
use Rattle.tg_wire.specs.Promise.Reading.{has_all, is_among, member_keys, knows_all}

pub has_all_texts : (d : Data) (keys : List Key) → has_all (key_texts keys) d ≡ list_all (λ key. is_some (get (key_text key) d)) keys
has_all_texts d [] = refl
has_all_texts d (k ∷ ks) = ap (λ rest. is_some (get (key_text k) d) && rest) (has_all_texts d ks)

any_texts : (text : List ℕ) (keys : List Key) → list_any (bytes_eq text) (key_texts keys) ≡ is_listed text keys
any_texts text [] = refl
any_texts text (k ∷ ks) = ap (λ rest. bytes_eq text (key_text k) || rest) (any_texts text ks)

pub among_either : (a b : List Key) (key : List ℕ) → is_among (key_texts a ++ key_texts b) key ≡ is_listed_in_either a b key
among_either a b key =
    list_any-append (bytes_eq key) (key_texts a) (key_texts b) ∙ ap (λ x. x || list_any (bytes_eq key) (key_texts b)) (any_texts key a) ∙ ap (λ y. is_listed key a || y) (any_texts key b)

keys_known : (a b : List Key) (es : List (String Global × Value))
    → list_all (is_among (key_texts a ++ key_texts b)) (member_keys (members_view es)) ≡ list_all (λ key. is_listed_in_either a b (string_bytes key)) (keys_of es)
keys_known a b [] = refl
keys_known a b (e ∷ es) = ap (λ x. x && list_all (is_among (key_texts a ++ key_texts b)) (member_keys (members_view es))) (among_either a b (string_bytes e.0))
    ∙ ap (λ rest. is_listed_in_either a b (string_bytes e.0) && rest) (keys_known a b es)

keys_at : (names : List (List ℕ)) (d : Data) (ms : Members) → Some ms ≡ as_object d → knows_all names d ≡ list_all (is_among names) (member_keys ms)
keys_at names null ms e = absurd (cc)
keys_at names (boolean b) ms e = absurd (cc)
keys_at names (number n) ms e = absurd (cc)
keys_at names (string s) ms e = absurd (cc)
keys_at names (array ds) ms e = absurd (cc)
keys_at names (object os) ms e = let same : ms ≡ os = cc in ap (λ m. list_all (is_among names) (member_keys m)) (sym same)

-- what the test on the entries says of the object's keys
pub knows_members : (a b : List Key) (d : Data) (es : List (String Global × Value)) → Some (members_view es) ≡ as_object d
    → knows_all (key_texts a ++ key_texts b) d ≡ list_all (λ key. is_listed_in_either a b (string_bytes key)) (keys_of es)
knows_members a b d es e = keys_at (key_texts a ++ key_texts b) d (members_view es) e ∙ keys_known a b es
