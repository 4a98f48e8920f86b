-- The line of a denial.
use Rattle.std.proofs.Common.{◌≡◌, ◌++◌, ◌∷◌, [], refl, sym, ap, ◌∙◌, List, ℕ, append_assoc}
use Rattle.std.specs.Prelude.{codes}
use Rattle.json.specs.Print.{escape, escape_byte, quoted}
use Rattle.tg_rights.specs.declared.command.Rule.{Rule}
use Rattle.tg_rights.specs.declared.command.Rule.TheVariants as rule
use Rattle.tg_wire.specs.Promise.Ops.{command_form}
use Rattle.tg_wire.proofs.Literals.{numbers_on_literals}

-- the word of a rule needs no escapes
pub word_is_plain : (rule : Rule) → escape (command_form rule).word ≡ (command_form rule).word
unfolding escape_byte
word_is_plain rule.Take = refl
word_is_plain rule.Grant = refl
word_is_plain rule.Create = refl
word_is_plain rule.Remove = refl
word_is_plain rule.Read = refl
word_is_plain rule.Write = refl
word_is_plain rule.Look = refl
word_is_plain rule.Enrol = refl
word_is_plain rule.Retire = refl
word_is_plain rule.Assume = refl
word_is_plain rule.Leave = refl

-- what follows the word
abbrev pub after_word : List ℕ → List ℕ → List ℕ → List ℕ
after_word from letters to = 44 ∷ (quoted (codes "from") ++ 58 ∷ (from ++ 44 ∷ (quoted (codes "missing") ++ 58 ∷ (letters ++ 44 ∷ (quoted (codes "to") ++ 58 ∷ (to ++ 125 ∷ []))))))

flat : (word from letters to : List ℕ) → codes "{\"denied\":\"" ++ (word ++ (codes "\",\"from\":" ++ (from ++ (codes ",\"missing\":" ++ (letters ++ (codes ",\"to\":" ++ (to ++ codes "}\n")))))))
    ≡ (123 ∷ (quoted (codes "denied") ++ 58 ∷ 34 ∷ ((word ++ 34 ∷ []) ++ after_word from letters to))) ++ 10 ∷ []
unfolding numbers_on_literals
flat word from letters to = simp append_assoc

-- the parts of the line
pub missing_line : (word from letters to : List ℕ) → escape word ≡ word
    → codes "{\"denied\":\"" ++ (word ++ (codes "\",\"from\":" ++ (from ++ (codes ",\"missing\":" ++ (letters ++ (codes ",\"to\":" ++ (to ++ codes "}\n")))))))
    ≡ (123 ∷ (quoted (codes "denied") ++ 58 ∷ (quoted word ++ after_word from letters to))) ++ 10 ∷ []
missing_line word from letters to plain =
    flat word from letters to ∙ ap (λ w. (123 ∷ (quoted (codes "denied") ++ 58 ∷ 34 ∷ ((w ++ 34 ∷ []) ++ after_word from letters to))) ++ 10 ∷ []) (sym plain)

flat_for : (why word : List ℕ) → codes "{\"cause\":\"" ++ (why ++ (codes "\",\"denied\":\"" ++ (word ++ codes "\"}\n")))
    ≡ (123 ∷ (quoted (codes "cause") ++ 58 ∷ 34 ∷ ((why ++ 34 ∷ []) ++ 44 ∷ (quoted (codes "denied") ++ 58 ∷ 34 ∷ ((word ++ 34 ∷ []) ++ 125 ∷ []))))) ++ 10 ∷ []
unfolding numbers_on_literals
flat_for why word = simp append_assoc

-- the parts of the line of a denial for a cause with no field but its word
pub cause_line : (why word : List ℕ) → escape why ≡ why → escape word ≡ word
    → codes "{\"cause\":\"" ++ (why ++ (codes "\",\"denied\":\"" ++ (word ++ codes "\"}\n")))
    ≡ (123 ∷ (quoted (codes "cause") ++ 58 ∷ (quoted why ++ 44 ∷ (quoted (codes "denied") ++ 58 ∷ (quoted word ++ 125 ∷ []))))) ++ 10 ∷ []
cause_line why word plain_why plain =
    flat_for why word
    ∙ ap (λ w. (123 ∷ (quoted (codes "cause") ++ 58 ∷ 34 ∷ ((w ++ 34 ∷ []) ++ 44 ∷ (quoted (codes "denied") ++ 58 ∷ 34 ∷ ((word ++ 34 ∷ []) ++ 125 ∷ []))))) ++ 10 ∷ []) (sym plain_why)
    ∙ ap (λ w. (123 ∷ (quoted (codes "cause") ++ 58 ∷ (quoted why ++ 44 ∷ (quoted (codes "denied") ++ 58 ∷ 34 ∷ ((w ++ 34 ∷ []) ++ 125 ∷ []))))) ++ 10 ∷ []) (sym plain)

flat_at : (why word vertex : List ℕ) → codes "{\"cause\":\"" ++ (why ++ (codes "\",\"denied\":\"" ++ (word ++ (codes "\",\"vertex\":" ++ (vertex ++ codes "}\n")))))
    ≡ (123 ∷ (quoted (codes "cause") ++ 58 ∷ 34 ∷ ((why ++ 34 ∷ []) ++ 44 ∷ (quoted (codes "denied") ++ 58 ∷ 34 ∷ ((word ++ 34 ∷ []) ++ 44 ∷ (quoted (codes "vertex") ++ 58 ∷ (vertex ++ 125 ∷ []))))))) ++ 10 ∷ []
unfolding numbers_on_literals
flat_at why word vertex = simp append_assoc

-- the same for a cause with a vertex
pub vertex_line : (why word vertex : List ℕ) → escape why ≡ why → escape word ≡ word
    → codes "{\"cause\":\"" ++ (why ++ (codes "\",\"denied\":\"" ++ (word ++ (codes "\",\"vertex\":" ++ (vertex ++ codes "}\n")))))
    ≡ (123 ∷ (quoted (codes "cause") ++ 58 ∷ (quoted why ++ 44 ∷ (quoted (codes "denied") ++ 58 ∷ (quoted word ++ 44 ∷ (quoted (codes "vertex") ++ 58 ∷ (vertex ++ 125 ∷ []))))))) ++ 10 ∷ []
vertex_line why word vertex plain_why plain =
    flat_at why word vertex
    ∙ ap (λ w. (123 ∷ (quoted (codes "cause") ++ 58 ∷ 34 ∷ ((w ++ 34 ∷ []) ++ 44 ∷ (quoted (codes "denied") ++ 58 ∷ 34 ∷ ((word ++ 34 ∷ []) ++ 44 ∷ (quoted (codes "vertex") ++ 58 ∷ (vertex ++ 125 ∷ []))))))) ++ 10 ∷ []) (sym plain_why)
    ∙ ap (λ w. (123 ∷ (quoted (codes "cause") ++ 58 ∷ (quoted why ++ 44 ∷ (quoted (codes "denied") ++ 58 ∷ 34 ∷ ((w ++ 34 ∷ []) ++ 44 ∷ (quoted (codes "vertex") ++ 58 ∷ (vertex ++ 125 ∷ []))))))) ++ 10 ∷ []) (sym plain)
