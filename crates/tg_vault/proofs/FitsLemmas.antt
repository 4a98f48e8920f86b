-- What a vault keeps makes its store fit the graph of the history.
use Rattle.std.proofs.Common.{◌≡◌, ℕ, List, [], ◌∷◌, subst, ◌∙◌, inl, inr, arith}
use Rattle.tg_graph.specs.Promise.Protection.{Protection, IsVertex, IsPart, Leads}
use Rattle.tg_graph.specs.Promise.Fullness.{edge_count}
use Rattle.tg_collect.specs.Promise.Readings.{agents, held, IsRootIn, pending}
use Rattle.tg_collect.specs.Promise.Views.{IsStore}
use Rattle.tg_vault.specs.Promise.Contents.{Contents, graph_now, held_now, moment, Ties, Fits, IsRoot}
use Rattle.tg_vault.proofs.DecidedLemmas.{of_graph, principal_listed, principal_root, root_principal}
use Rattle.tg_vault.proofs.EdgeLemmas.{edge_count_seen}
use Rattle.tg_vault.proofs.PlaceLemmas.{seat_contains}

-- a path of the graph from a vertex of the part stays in the part
pub path_stays : (G H : Protection) → IsPart G H → (later : List ℕ) (x y : ℕ) → IsVertex H x → Leads G x later y → IsVertex H y
path_stays G H part [] x y h is = subst (IsVertex H) is h
path_stays G H part (z ∷ zs) x y h leads = path_stays G H part zs z y (part.closed x z h leads.0) leads.1

module _ (v : Contents) (j : Ties v) (s : IsStore v.store) where
  pub root_in : (x : ℕ) → IsRoot (moment v).world x → IsRootIn v.store x
  root_in x (inl active) = principal_root v j s x active
  root_in x (inr (seat, inl target)) = inr (inl (seat_contains (pending v.store) seat x target))
  root_in x (inr (seat, inr agent)) = inr (inr (seat_contains (agents v.store) seat x agent))

  pub fits_are : Fits v
  fits_are = record {
    legal = j.vault.legal;
    part = j.part;
    live = λ x live. path_stays (graph_now v) (held_now v) j.part live.2.0 live.0 x (s.roots_held live.0 (root_in live.0 live.1)) live.2.1.1;
    apart = s.apart;
    of_graph = λ x slot. elim slot [ inl held ↦ of_graph v j s x held | inr parked ↦ j.parked x parked ];
    slots = s.slots (graph_now v).next ∙ j.slots;
    few_cells =
        let few = s.few_edges (graph_now v).next in
        let same = j.cells in
        let counted : edge_count (held_now v) ≡ edge_count (held v.store (graph_now v).next) = edge_count_seen v.store (graph_now v).next (graph_now v).next (graph_now v).names (graph_now v).retired in
        omega arith;
    many_cells = j.many_cells;
    all_cells = λ none.
        let all = s.all_cells none (graph_now v).next in
        let same = j.cells in
        let counted : edge_count (held_now v) ≡ edge_count (held v.store (graph_now v).next) = edge_count_seen v.store (graph_now v).next (graph_now v).next (graph_now v).names (graph_now v).retired in
        omega arith;
    principals = λ x. (root_principal v j s x, principal_listed v j s x);
    seats = j.vault.seats;
    targets = s.seats;
    agents = s.agents;
  }
