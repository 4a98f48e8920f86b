-- The entries that a run adds are those of its Asked answers.
use Rattle.std.proofs.Common.{◌≡◌, ℕ, suc, ◌+◌, List, [], ◌∷◌, ◌++◌, length, length-append, append_assoc, refl, sym, ap, ◌∙◌, arith, append-nil}
use Rattle.tg_graph.specs.Promise.Protection.{Protection}
use Rattle.tg_graph.specs.Promise.Rules.{next_graph, reply_of}
use Rattle.tg_vault.specs.declared.entry.Entry.{Entry}
use Rattle.tg_vault.specs.declared.event.Event.{Event}
use Rattle.tg_vault.specs.declared.event.Event.TheVariants as event
use Rattle.tg_vault.specs.declared.event.Answer.{Answer}
use Rattle.tg_vault.specs.declared.event.Answer.TheVariants as answer
use Rattle.tg_graph.specs.Promise.Fullness.{Limits}
use Rattle.tg_vault.specs.Promise.History.{graph_of}
use Rattle.tg_vault.specs.Promise.World.{Moment, Step, Run}
use Rattle.tg_vault.specs.Promise.Contents.{Contents, RunOf, moment}
use Rattle.tg_vault.specs.Promise.Headline.{asked_in, replies_from, AddsAsked}

-- what answers add to a moment
pub record Adds (m : Moment) (answers : List Answer) (n : Moment) : Type 0 where
  pub added : List Entry
  pub history : n.history ≡ m.history ++ added
  pub graph : n.world.graph ≡ graph_of m.world.graph added
  pub asked : asked_in answers ≡ replies_from m.world.graph (length m.history) added

-- nothing is added
same : (m n : Moment) (answers : List Answer) → n.history ≡ m.history → n.world.graph ≡ m.world.graph → asked_in answers ≡ [] → Adds m answers n
same m n answers h g a = record { added = []; history = h ∙ sym (append-nil m.history); graph = g; asked = a }

pub step_adds : (limits : Limits) (m : Moment) (e : Event) (a : Answer) (n : Moment) → Step limits m e a n → Adds m (a ∷ []) n
step_adds limits m (event.Hello seat name) (answer.Hello x) n h = same m n _ (ap (λ (k : Moment). k.history) h.2) (ap (λ (k : Moment). k.world.graph) h.2) refl
step_adds limits m (event.Hello seat name) (answer.Seat fault) n h = same m n _ (ap (λ (k : Moment). k.history) h.1) (ap (λ (k : Moment). k.world.graph) h.1) refl
step_adds limits m (event.Bye seat) answer.Bye n h = same m n _ (ap (λ (k : Moment). k.history) h.1) (ap (λ (k : Moment). k.world.graph) h.1) refl
step_adds limits m (event.Bye seat) (answer.Seat fault) n h = same m n _ (ap (λ (k : Moment). k.history) h.1) (ap (λ (k : Moment). k.world.graph) h.1) refl
step_adds limits m (event.Ask seat c) (answer.Asked number reply) n h =
    let enters = h.2.2 in
    let entry : Entry = record { seat = seat; actor = h.2.0; command = c; outcome = enters.outcome } in
    record {
      added = entry ∷ [];
      history = ap (λ (k : Moment). k.history) enters.left;
      graph = ap (λ (k : Moment). k.world.graph) enters.left;
      asked = λ i. (h.1 i, enters.replied i) ∷ [];
    }
step_adds limits m (event.Ask seat c) (answer.Ask fault) n h = same m n _ (ap (λ (k : Moment). k.history) h.1) (ap (λ (k : Moment). k.world.graph) h.1) refl
step_adds limits m (event.Shade seat) (answer.Shaded target) n h = same m n _ (ap (λ (k : Moment). k.history) h.2) (ap (λ (k : Moment). k.world.graph) h.2) refl
step_adds limits m (event.Shade seat) (answer.Seat fault) n h = same m n _ (ap (λ (k : Moment). k.history) h.1) (ap (λ (k : Moment). k.world.graph) h.1) refl
step_adds limits m event.Collect (answer.Noted note) n h = same m n _ (ap (λ (k : Moment). k.history) h.2) (ap (λ (k : Moment). k.world.graph) h.2) refl
step_adds limits m _ _ n h = absurd h

asked_append : (xs ys : List Answer) → asked_in (xs ++ ys) ≡ asked_in xs ++ asked_in ys
asked_append [] ys = refl
asked_append (answer.Asked number reply ∷ xs) ys = ap (λ all. (number, reply) ∷ all) (asked_append xs ys)
asked_append (_ ∷ xs) ys = asked_append xs ys

graph_append : (G : Protection) (xs ys : List Entry) → graph_of G (xs ++ ys) ≡ graph_of (graph_of G xs) ys
graph_append G [] ys = refl
graph_append G (e ∷ xs) ys = graph_append (next_graph G e.actor e.command e.outcome) xs ys

replies_append : (G : Protection) (n : ℕ) (xs ys : List Entry) → replies_from G n (xs ++ ys) ≡ replies_from G n xs ++ replies_from (graph_of G xs) (n + length xs) ys
replies_append G n [] ys = ap (λ k. replies_from G k ys) (let e : n ≡ n + 0 = omega arith in e)
replies_append G n (e ∷ xs) ys =
    ap (λ all. (n, reply_of G e.actor e.command e.outcome) ∷ all) (replies_append (next_graph G e.actor e.command e.outcome) (n + 1) xs ys
    ∙ ap (λ k. replies_from (next_graph G e.actor e.command e.outcome) (n + 1) xs ++ replies_from (graph_of (next_graph G e.actor e.command e.outcome) xs) k ys)
    (let e : n + 1 + length xs ≡ n + suc (length xs) = omega arith in e))

adds_both : (m n k : Moment) (xs ys : List Answer) → Adds m xs n → Adds n ys k → Adds m (xs ++ ys) k
adds_both m n k xs ys first next = record {
  added = first.added ++ next.added;
  history = next.history ∙ ap (λ all. all ++ next.added) first.history ∙ append_assoc m.history first.added next.added;
  graph = next.graph ∙ ap (λ G. graph_of G next.added) first.graph ∙ sym (graph_append m.world.graph first.added next.added);
  asked =
      asked_append xs ys ∙ (λ i. first.asked i ++ next.asked i)
      ∙ ap (λ G. replies_from m.world.graph (length m.history) first.added ++ replies_from G (length n.history) next.added) first.graph
      ∙ ap (λ l. replies_from m.world.graph (length m.history) first.added ++ replies_from (graph_of m.world.graph first.added) l next.added) (ap length first.history ∙ length-append m.history first.added)
      ∙ sym (replies_append m.world.graph (length m.history) first.added next.added);
}

run_adds : (limits : Limits) (m : Moment) (es : List Event) (answers : List Answer) (n : Moment) → Run limits m es answers n → Adds m answers n
run_adds limits m [] [] n h = same m n [] (ap (λ (k : Moment). k.history) h) (ap (λ (k : Moment). k.world.graph) h) refl
run_adds limits m (e ∷ es) (a ∷ answers) n h = adds_both m h.0 n (a ∷ []) answers (step_adds limits m e a h.0 h.1) (run_adds limits h.0 es answers n h.2)
run_adds limits m [] (a ∷ answers) n h = absurd h
run_adds limits m (e ∷ es) [] n h = absurd h

pub runs_add : (old : Contents) (es : List Event) (answers : List Answer) (new : Contents) → RunOf old es answers new → AddsAsked old answers new
runs_add old es answers new h = let a = run_adds old.limits (moment old) es answers (moment new) h in record { added = a.added; history = a.history; asked = a.asked }
