use Rattle.std.proofs.Common.{◌≡◌, ◌∷◌, ◌++◌, [], sym, ap, ◌∙◌, subst}
use Rattle.json.specs.Token as token
use Rattle.json.specs.Reads.{token_of}
use Rattle.tg_wire.specs.Inner.Flat.{AreSpelled, key_tokens}
use Rattle.tg_wire.proofs.FlatLemmas.{spelled_more, key_tokens_more}
use Rattle.tg_wire.proofs.escaped.take_members.Goals as goal

pub loop-word-preserved : goal.loop-word-preserved
loop-word-preserved c =
    let before = c.loop-word.invariant in
    let word = c.in-Key.word.now in
    let t = token_of c.in_ok-next-in-Key.field-0 in
    let first : c.loop-word.reader ≡ token.key word ∷ c.next.new.self = c.in_ok-word.ensures.value ∙ ap (λ x. token_of x ∷ c.next.new.self) c.in-Key.is in
    let second : c.next.new.self ≡ t ∷ c.next-in-Key.new.self = c.in_ok-next-in-Key.ensures.value in (
      before.0 ++ (word, t) ∷ [],
      subst (AreSpelled (before.0 ++ (word, t) ∷ [])) (sym c.in_ok-add-in-Key.ensures) (spelled_more before.0 c.loop-word.found.list.items word t _ before.1 (sym c.in_ok-key-in-Key.ensures) c.in_ok-value-in-Key.ensures),
      before.2 ∙ ap (λ ts. key_tokens before.0 ++ ts) (first ∙ ap (λ ts. token.key word ∷ ts) second) ∙ key_tokens_more before.0 word t c.next-in-Key.new.self,
    )
