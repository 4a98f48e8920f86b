use Rattle.std.proofs.Common.{◌≡◌, ◌∷◌, ◌+◌, ◌++◌, [], drop, get_or, sym, ap, refl, ◌∙◌, subst, arith}
use Rattle.json.specs.Token.{string}
use Rattle.json.specs.Lex.{token, colon, between, lex}
use Rattle.json.specs.Word.{is_space}
use Rattle.tg_wire.specs.Inner.Flat.{AreSpelled, member_lexemes}
use Rattle.tg_wire.specs.Inner.Keys.{key_text}
use Rattle.tg_wire.proofs.LexemesLemmas.{EndsAt, within, operator_at, spaces_at}
use Rattle.tg_wire.proofs.FlatLemmas.{spelled_more, lexemes_more}
use Rattle.tg_wire.proofs.flat.read_members.Goals as goal

pub loop-member-preserved : goal.loop-member-preserved
loop-member-preserved c =
    let d = c.args.line.now in
    let front = c.loop-member.invariant.1 in
    let found = c.in_ok-member.ensures.found in
    let member = c.in_ok-member.member in
    let same = c.as_bytes-bytes.ensures.value in
    let after = c.in_ok-member.after in
    let end = c.after_spaces-end.result.0 in
    let behind = spaces_at d after end (subst (λ t. EndsAt is_space t after end) same c.after_spaces-end.ensures.place.value) in
    let is_comma : get_or d end 32 ≡ 44 = subst (λ t. get_or t end 32 ≡ 44) same (c.after_spaces-end.ensures.byte ∙ c.in-44.is) in (
      omega (arith, within d end 44 is_comma (λ z. omega arith)),
      (
        front.0 ++ (key_text member.key, found.0) ∷ [],
        subst (AreSpelled (front.0 ++ (key_text member.key, found.0) ∷ [])) (sym c.in_ok-add.ensures) (spelled_more front.0 _ (key_text member.key) found.0 member front.1 refl found.1),
        front.2 ∙ ap (member_lexemes front.0) (found.2 ∙ ap (λ ls. token (string (key_text member.key)) ∷ colon ∷ token found.0 ∷ ls) (behind ∙ operator_at d end 44 refl is_comma (λ z. omega arith)))
            ∙ lexemes_more front.0 (key_text member.key) found.0 (lex between (drop (end + 1) d)),
      ),
    )

pub returns-in-125-clause-found : goal.returns-in-125-clause-found
returns-in-125-clause-found c =
    let d = c.args.line.now in
    let front = c.loop-member.invariant.1 in
    let found = c.in_ok-member.ensures.found in
    let member = c.in_ok-member.member in
    let same = c.as_bytes-bytes.ensures.value in
    let after = c.in_ok-member.after in
    let end = c.after_spaces-end.result.0 in
    let behind = spaces_at d after end (subst (λ t. EndsAt is_space t after end) same c.after_spaces-end.ensures.place.value) in
    let is_brace : get_or d end 32 ≡ 125 = subst (λ t. get_or t end 32 ≡ 125) same (c.after_spaces-end.ensures.byte ∙ c.in-125.is) in
    record {
      front = front.0;
      key = key_text member.key;
      value = found.0;
      spelled = subst (AreSpelled (front.0 ++ (key_text member.key, found.0) ∷ [])) (sym c.in_ok-add.ensures) (spelled_more front.0 _ (key_text member.key) found.0 member front.1 refl found.1);
      lexemes = front.2 ∙ ap (member_lexemes front.0) (found.2 ∙ ap (λ ls. token (string (key_text member.key)) ∷ colon ∷ token found.0 ∷ ls) (behind ∙ operator_at d end 125 refl is_brace (λ z. omega arith)));
    }
