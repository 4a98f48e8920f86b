use Rattle.std.proofs.Common.{◌≡◌, ◌||◌, ◌<◌, ◌∙◌, Some, None, length, nat_lt, subst, ap, arith, true, false}
use Rattle.tg_talk.specs.Promise.InputLines.{has_newline, IsFirstNewline}
use Rattle.tg_talk.proofs.InputLinesLemmas.{first_of, none_in_front, none_in_shorter, none_of}
use Rattle.tg_talk.proofs.line_buffer.LineBuffer.find.Goals as goal

pub returns-in_default-clause-found : goal.returns-in_default-clause-found
returns-in_default-clause-found g c =
    let found : IsFirstNewline c.loop-self.self c.in-Some.n = subst (λ xs. IsFirstNewline xs c.in-Some.n) c.bytes-2.ensures (first_of _ (Some c.in-Some.n) c.in-Some.ensures) in
    (omega (arith, found.within), none_in_shorter c.loop-self.self 16385 c.in-Some.n (omega arith) found.none)

pub returns-in_default-2-clause-found : goal.returns-in_default-2-clause-found
returns-in_default-2-clause-found g c =
    let none : has_newline c.loop-self.self ≡ false = subst (λ xs. has_newline xs ≡ false) c.bytes-2.ensures (none_of _ None c.in_default.ensures) in
    let long : true ≡ nat_lt 16384 (length c.loop-self.self) = c.loop-self-test.ensures ∙ ap (λ b. b || nat_lt 16384 (length c.loop-self.self)) none in
    let over : 16384 < length c.loop-self.self = grind (arith, long) in
    (over, none_in_front c.loop-self.self 16385 none)

pub returns-in-Some-clause-found : goal.returns-in-Some-clause-found
returns-in-Some-clause-found g c =
    let found : IsFirstNewline c.loop-self.self c.in-Some.n = subst (λ xs. IsFirstNewline xs c.in-Some.n) c.bytes-2.ensures (first_of _ (Some c.in-Some.n) c.in-Some.ensures) in
    (found, omega arith)
