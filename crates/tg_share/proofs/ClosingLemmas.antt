-- A shared vault that is closed: from what was settled and counted to what is promised.
use Rattle.std.proofs.Common.{◌≡◌, ◌+◌, List, [], ◌∷◌, ◌++◌, append-nil, arith, Bool, true, length, refl, sym, ap, subst, ◌∙◌, sum_by}
use Rattle.std.proofs.lemmas.List.Sums.{sum_by-cons}
use Rattle.std.specs.Prelude.{Option}
use Rattle.tg_graph.specs.Promise.Protection.{Protection}
use Rattle.tg_vault.specs.Promise.Contents.{Contents}
use Rattle.tg_vault.specs.Promise.Laws.{CoursesHaveTheHeadline}
use Rattle.tg_audit.specs.declared.logs.SeatLog.{SeatLog}
use Rattle.tg_audit.specs.declared.logs.Settled.{Settled}
use Rattle.tg_audit.specs.declared.logs.Settled.TheVariants as settled
use Rattle.tg_audit.specs.Promise.Laws.{AgreedCounts}
use Rattle.tg_audit.specs.Promise.Settling.{HandsOn, SettledAs}
use Rattle.tg_share.specs.declared.session.Ended.{Ended}
use Rattle.tg_share.specs.Promise.Closing.{IsAgreed, IsSettled, exchange_count, logs_of, vault_in}
use Rattle.tg_share.specs.Promise.Reached.{HasHeadline, IsReached}

pub nothing_left : {A : Type 0} (front rest whole : List A) → length rest ≡ 0 → front ++ rest ≡ whole → front ≡ whole
nothing_left front [] whole none is = sym (append-nil front) ∙ is
nothing_left front (x ∷ rest) whole none is = absurd (omega arith)

-- the exchanges in the logs are those of the ended sessions
pub count_in_logs : {L : Type 0} (ended : List (Ended L)) → sum_by (λ l. length l.exchanges.items) (logs_of ended) ≡ exchange_count ended
count_in_logs [] = refl
count_in_logs (e ∷ ended) =
    sum_by-cons (λ (l : SeatLog). length l.exchanges.items) e.log (logs_of ended)
    ∙ ap (λ n. length e.log.exchanges.items + n) (count_in_logs ended)
    ∙ sym (sum_by-cons (λ (one : Ended _). length one.log.exchanges.items) e ended)

handed_back : (v : Contents) (logs : List SeatLog) (s : Settled) → SettledAs v logs s → vault_in s ≡ v
handed_back v logs (settled.Agreed w) is = is.0
handed_back v logs _ is = is.0

-- so the graph that is handed on is that of the vault which is handed back
pub handed_on : (v : Contents) (logs : List SeatLog) (s : Settled) (graph : Option Protection) → SettledAs v logs s → HandsOn v s graph → HandsOn (vault_in s) s graph
handed_on v logs s graph is on = subst (λ (w : Contents). HandsOn w s graph) (sym (handed_back v logs s is)) on

-- by the law of the auditor
counted_where_agreed : (v : Contents) (logs : List SeatLog) (s : Settled) → AgreedCounts → SettledAs v logs s → IsAgreed s → length v.history ≡ sum_by (λ l. length l.exchanges.items) logs
counted_where_agreed v logs (settled.Agreed w) law is agreed = law v logs is.1
counted_where_agreed v logs _ law is agreed = absurd agreed

has_headline : CoursesHaveTheHeadline → (v : Contents) → IsReached v → HasHeadline v
has_headline law v reached =
    let both = law reached.opened reached.events reached.answers v reached.coherent reached.course in
    record { reached = reached; headline = both.0; bounded = both.1 }

pub closes : {L : Type 0} (ended : List (Ended L)) (logs : List SeatLog) (v : Contents) (s : Settled) (all : Bool) → CoursesHaveTheHeadline → AgreedCounts →
    logs ≡ logs_of ended → IsReached v → SettledAs v logs s → (all ≡ true → length v.history ≡ exchange_count ended) → IsSettled ended s all
closes ended logs v s all headlines counts same reached is counted =
    let back : vault_in s ≡ v = handed_back v logs s is in
    let entries : length (vault_in s).history ≡ length v.history = ap (λ (w : Contents). length w.history) back in
    record {
      settled = subst (λ w. SettledAs w (logs_of ended) s) (sym back) (subst (λ ls. SettledAs v ls s) same is);
      agreed = λ agreed. entries ∙ counted_where_agreed v logs s counts is agreed ∙ ap (λ (ls : List SeatLog). sum_by (λ l. length l.exchanges.items) ls) same ∙ count_in_logs ended;
      counted = λ whole. entries ∙ counted whole;
      headline = subst HasHeadline (sym back) (has_headline headlines v reached);
    }
