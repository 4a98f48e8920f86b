use Rattle.tg_graph.specs.Promise.Laws.{AnswersStayAlike}
use Rattle.tg_graph.proofs.AnswersAgreeLemmas.{keeps_viewers}
use Rattle.tg_graph.proofs.answers_stay_alike.Goals as goal

stay_alike : AnswersStayAlike
stay_alike G H K L M N x y c d a b p q viewers g h k l next x_in y_in agree one two three four =
    let first = keeps_viewers G K x c a g one H L b viewers h next x_in agree two in
    (keeps_viewers K M y d p k three L N q viewers l first.1 y_in first.2 four).0

pub returns : goal.returns
returns c = stay_alike
