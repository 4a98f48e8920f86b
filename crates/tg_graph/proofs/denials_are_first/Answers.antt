use Rattle.tg_graph.specs.Promise.Rules.{checks}
use Rattle.tg_graph.specs.Promise.Terms.{terms}
use Rattle.tg_graph.proofs.AllowedIsMetLemmas.{first_of, is_first}
use Rattle.tg_graph.proofs.denials_are_first.Goals as goal

pub returns : goal.returns
returns c = λ G x c why. (first_of why (checks G x (terms x c)), λ h. is_first why (checks G x (terms x c)) h.0 h.1 h.2 h.3)
