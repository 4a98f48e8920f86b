-- what is always written alike; folded where a text is put together, since long literals and choices of words are too much
-- for its equations there
use Rattle.std.specs.Prelude.{ℕ, List, [], Bool, true, false, codes}
use Rattle.tg_rights.specs.declared.kind.Kind.{Kind}
use Rattle.tg_rights.specs.declared.kind.Kind.TheVariants.{Subject, Document}
use Rattle.tg_slots.specs.declared.colour.Colour.{Colour}
use Rattle.tg_slots.specs.declared.colour.Colour.TheVariants.{White, Grey, Black}
use Rattle.tg_collect.specs.declared.note.Phase.{Phase}
use Rattle.tg_collect.specs.declared.note.Phase.TheVariants.{Idle, Mark, Sweep}

-- what comes before the label, and between it and the vertices
unfoldable pub before_label : List ℕ
before_label = codes "digraph { graph [labelloc=t,labeljust=l,label=\""

unfoldable pub before_vertices : List ℕ
before_vertices = codes "\"]; node [shape=circle,width=1];"

-- what comes before the count of what is free
unfoldable pub before_slots : List ℕ
before_slots = codes ", free slots "

unfoldable pub before_cells : List ℕ
before_cells = codes ", free cells "

unfoldable pub phase_word : Phase → List ℕ
phase_word Idle = codes "idle"
phase_word Mark = codes "mark"
phase_word Sweep = codes "sweep"

unfoldable pub kind_word : Kind → List ℕ
kind_word Subject = codes "subject"
kind_word Document = codes "document"

unfoldable pub colour_word : Colour → List ℕ
colour_word White = codes "white"
colour_word Grey = codes "grey"
colour_word Black = codes "black"

-- that a vertex waits to be swept; nothing if it is held
unfoldable pub held_word : Bool → List ℕ
held_word true = []
held_word false = codes " condemned"

-- a subject is filled, a document open, as Bishop draws them; the rim of what waits to be swept is dashed
unfoldable pub style : Kind → Bool → List ℕ
style Subject true = codes "style=filled,fillcolor=skyblue"
style Subject false = codes "style=\"filled,dashed\",fillcolor=skyblue"
style Document true = codes "style=solid"
style Document false = codes "style=dashed"

-- the rim: thin if white, thick and grey if grey, thick if black
unfoldable pub rim : Colour → List ℕ
rim White = codes ",penwidth=1"
rim Grey = codes ",penwidth=4,color=gray50"
rim Black = codes ",penwidth=4"
