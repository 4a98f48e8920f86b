-- words of the heap's contracts
use Rattle.std.specs.Prelude.{◌≡◌, ◌≢◌, ℕ, ◌+◌, ◌∷◌, ◌++◌, ◌⊎◌}
use Rattle.std.proofs.Common.{set}
use Rattle.tg_rights.specs.Promise.Letters.{Letters, joined, without, none}
use Rattle.tg_cells.specs.Promise.Lists.{Edge, first_cell, HasNone, IsUnowned, Found}
use Rattle.tg_heap.specs.Promise.Graph.{HeapGraph, edges}
use Rattle.tg_heap.specs.declared.heap.Dropped.{Dropped}
use Rattle.tg_heap.specs.declared.heap.Dropped.TheVariants.{Kept, Gone}

-- the heap after the label of an edge was replaced
abbrev pub relabelled : (h : HeapGraph) (id serial : ℕ) → Found (edges h id) serial → Letters → HeapGraph
relabelled h id serial f rights = record h { lists = set h.lists id (f.before ++ record f.edge { rights = rights } ∷ f.after) }

-- an edge loses rights; one left with none is gone, and its cell and the cell that followed it are named
abbrev pub IsDropped : (h g : HeapGraph) (id serial : ℕ) → Letters → Dropped → Type 0
IsDropped h g id serial rights Kept = (f : Found (edges h id) serial) × (without f.edge.rights rights ≢ none) × (g ≡ relabelled h id serial f (without f.edge.rights rights))
IsDropped h g id serial rights (Gone cell next) = (f : Found (edges h id) serial) × (without f.edge.rights rights ≡ none) × (cell ≡ f.edge.cell) × (next ≡ first_cell f.after)
    × (g ≡ record h { lists = set h.lists id (f.before ++ f.after); free_cells = h.free_cells + 1 })

-- an edge gains rights: its label is joined, or a new edge is put in front
abbrev pub IsAdded : (h g : HeapGraph) (id target serial : ℕ) → Letters → Type 0
IsAdded h g id target serial rights =
    ((f : Found (edges h id) serial) × (g ≡ relabelled h id serial f (joined f.edge.rights rights)))
    ⊎ ((e : Edge) × (HasNone (edges h id) serial) × (IsUnowned h.lists e.cell) × (e.target ≡ target) × (e.serial ≡ serial) × (e.rights ≡ rights)
    × (h.free_cells ≡ g.free_cells + 1) × (g ≡ record h { lists = set h.lists id (e ∷ edges h id); free_cells = g.free_cells }))
