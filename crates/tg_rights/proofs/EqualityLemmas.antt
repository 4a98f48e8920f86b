-- Commands and replies compare as equal exactly if they are the same.
use Rattle.std.proofs.Common.{◌≡◌, ℕ, List, [], ◌∷◌, Bool, true, refl, ap, subst, nat_eq, Decides, arith}
use Rattle.std.proofs.lemmas.Bool.{and_parts, false≢true}
use Rattle.std.proofs.lemmas.Bool.Decides.{nat_tests}
use Rattle.std.specs.Cmp.Lexicographic.{pointwise}
use Rattle.tg_rights.specs.Promise.Letters.{Letters, number}
use Rattle.tg_rights.specs.declared.command.Command.{Command}
use Rattle.tg_rights.specs.declared.command.Command.TheVariants as command
use Rattle.tg_rights.specs.declared.outcome.Cause.{Cause}
use Rattle.tg_rights.specs.declared.outcome.Reply.{Reply}
use Rattle.tg_rights.specs.declared.outcome.Reply.TheVariants as reply
use Rattle.tg_rights.specs.declared.command.Rule.{Rule}
use Rattle.tg_rights.specs.contracts.command.RulePartialEq.TheImpl as rules
use Rattle.tg_rights.specs.contracts.text.TextPartialEq.TheImpl as texts
use Rattle.tg_rights.specs.contracts.name.NamePartialEq.TheImpl as names
use Rattle.tg_rights.specs.contracts.lists.EdgeListPartialEq.TheImpl as edge_lists
use Rattle.tg_rights.specs.contracts.command.CommandEq.TheImpl.Laws as command_laws
use Rattle.tg_rights.specs.contracts.outcome.ReplyEq.TheImpl.Laws as reply_laws
use Rattle.tg_rights.specs.contracts.command.CommandPartialEq.TheImpl as commands
use Rattle.tg_rights.specs.contracts.outcome.CausePartialEq.TheImpl as causes
use Rattle.tg_rights.specs.contracts.outcome.ReplyPartialEq.TheImpl as replies

same_letters : (a b : Letters) → nat_eq (number a) (number b) ≡ true → a ≡ b
same_letters a b e = grind (arith, nat_tests)

-- lists are the same if a test under which elements are the same holds of them in turn
same_lists : {X : Type 0} (E : X → X → Bool) → ((x y : X) → E x y ≡ true → x ≡ y) → (xs ys : List X) → pointwise E xs ys ≡ true → xs ≡ ys
same_lists E each [] [] e = refl
same_lists E each [] (y ∷ ys) e = absurd (false≢true e)
same_lists E each (x ∷ xs) [] e = absurd (false≢true e)
same_lists E each (x ∷ xs) (y ∷ ys) e = let parts = and_parts (E x y) (pointwise E xs ys) e in λ i. each x y parts.0 i ∷ same_lists E each xs ys parts.1 i

same_text : (a b : List ℕ) → texts.ghosts.eq a b ≡ true → a ≡ b
same_text = same_lists nat_eq (λ x y e. grind (arith, nat_tests))

same_edges : (a b : List (ℕ × Letters)) → edge_lists.ghosts.eq a b ≡ true → a ≡ b
same_edges = same_lists _ (λ x y e. grind (same_letters, arith, nat_tests))

same_command : (a b : Command) → commands.ghosts.eq a b ≡ true → a ≡ b
same_command (command.Take r o f) (command.Take s p g) e = grind (same_letters, arith, nat_tests)
same_command (command.Grant r o t) (command.Grant s p u) e = grind (same_letters, arith, nat_tests)
same_command (command.Create k r) (command.Create l s) e = grind (same_letters, arith, nat_tests)
same_command (command.Remove r o) (command.Remove s p) e = grind (same_letters, arith, nat_tests)
same_command (command.Read o) (command.Read p) e = grind (arith, nat_tests)
same_command (command.Write o t) (command.Write p u) e =
    let parts = and_parts (nat_eq o p) (texts.ghosts.eq t u) e in
    let over : o ≡ p = grind (arith, nat_tests) in
    λ i. command.Write (over i) (same_text t u parts.1 i)
same_command (command.Look o) (command.Look p) e = grind (arith, nat_tests)
same_command (command.Enrol n r) (command.Enrol m s) e =
    let parts = and_parts (names.ghosts.eq n m) (nat_eq (number r) (number s)) e in
    λ i. command.Enrol (same_text n m parts.0 i) (same_letters r s parts.1 i)
same_command command.Retire command.Retire e = refl
same_command (command.Assume a) (command.Assume b) e = grind (arith, nat_tests)
same_command command.Leave command.Leave e = refl
same_command a b e = absurd (false≢true e)

same_rule : (a b : Rule) → rules.ghosts.eq a b ≡ true → a ≡ b
same_rule a b e = grind (arith, nat_tests)

same_cause : (a b : Cause) → causes.ghosts.eq a b ≡ true → a ≡ b
same_cause a b e = grind (same_letters, arith, nat_tests)

same_reply : (a b : Reply) → replies.ghosts.eq a b ≡ true → a ≡ b
same_reply reply.Done reply.Done e = refl
same_reply (reply.Created n) (reply.Created m) e = grind (arith, nat_tests)
same_reply (reply.Text t) (reply.Text u) e = ap reply.Text (same_text t u e)
same_reply (reply.Edges t) (reply.Edges u) e = ap reply.Edges (same_edges t u e)
same_reply (reply.Denied r c) (reply.Denied s d) e =
    let parts = and_parts (rules.ghosts.eq r s) (causes.ghosts.eq c d) e in
    let rule : r ≡ s = same_rule r s parts.0 in
    λ i. reply.Denied (rule i) (same_cause c d parts.1 i)
same_reply (reply.Full w) (reply.Full v) e = grind (arith, nat_tests)
same_reply a b e = absurd (false≢true e)

pub commands_decided : (a b : Command) → Decides (commands.ghosts.eq a b) (a ≡ b)
commands_decided a b = (same_command a b, λ same. subst (λ c. commands.ghosts.eq a c ≡ true) same (command_laws.laws-law.refl a))

pub replies_decided : (a b : Reply) → Decides (replies.ghosts.eq a b) (a ≡ b)
replies_decided a b = (same_reply a b, λ same. subst (λ r. replies.ghosts.eq a r ≡ true) same (reply_laws.laws-law.refl a))
