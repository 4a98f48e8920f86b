-- Which replies are the same.
use Rattle.std.proofs.Common.{◌≡◌, refl, sym, subst}
use Rattle.tg_rights.specs.declared.command.Rule.{Rule}
use Rattle.tg_rights.specs.declared.outcome.Cause.{Cause}
use Rattle.tg_rights.specs.declared.outcome.Reply.{Reply}
use Rattle.tg_rights.specs.declared.outcome.Reply.TheVariants.{Done, Created, Text, Edges, Denied, Full}
use Rattle.tg_graph.specs.Promise.Agreement.{SameReply}
use Rattle.tg_graph.specs.Promise.Laws.{DenialsAreTheSame}

turned : (a b : Reply) → SameReply a b → SameReply b a
turned Done b is = subst (λ b. SameReply b Done) is refl
turned (Text text) b is = subst (λ b. SameReply b (Text text)) is refl
turned (Edges edges) b is = subst (λ b. SameReply b (Edges edges)) is refl
turned (Denied rule why) b is = subst (λ b. SameReply b (Denied rule why)) is refl
turned (Created n) (Created m) is = tt
turned (Created n) (Full w) is = tt
turned (Created n) _ is = sym is
turned (Full w) (Created m) is = tt
turned (Full w) (Full v) is = tt
turned (Full w) _ is = sym is

denied : (a b : Reply) → SameReply a b → (rule : Rule) (why : Cause) → a ≡ Denied rule why → b ≡ Denied rule why
denied a b same rule why is = let told : SameReply (Denied rule why) b = subst (λ a. SameReply a b) is same in sym told

pub denials_are_the_same : DenialsAreTheSame
denials_are_the_same a b same = (turned a b same, denied a b same)
