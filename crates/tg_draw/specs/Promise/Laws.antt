-- what every picture has, and what is drawn, on examples
use Rattle.std.specs.Prelude.{◌≡◌, ℕ, List, [], ◌∷◌, Some, None, true, false, codes}
use Rattle.tg_rights.specs.Promise.Letters.{joined, take_alone, grant_alone}
use Rattle.tg_rights.specs.declared.kind.Kind.TheVariants.{Subject, Document}
use Rattle.tg_slots.specs.declared.colour.Colour.TheVariants.{White, Grey}
use Rattle.tg_collect.specs.declared.note.Phase.TheVariants.{Sweep}
use Rattle.tg_vault.specs.Promise.Contents.{Contents}
use Rattle.tg_draw.specs.Promise.Label.{byte_text}
use Rattle.tg_draw.specs.Promise.Picture.{Draws, edge_text, seat_text, state_text, vertex_text}

-- a vault has one picture under a label
abbrev pub OnePicture : Type 0
OnePicture = (v : Contents) (label first second : List ℕ) → Draws v label first → Draws v label second → first ≡ second

-- an edge, a seat, the state, two vertices, and bytes that have a meaning between quotes
pub record DrawnOnExamples : Type 0 where
  pub edge : edge_text (1, joined take_alone grant_alone, 2) ≡ codes " 1 -> 2 [label=\"tg\"];"
  pub seat : seat_text (record { seat = 3; principal = 1; agent = None; target = None }) ≡ codes "seat 3: 1\\l"
  pub state : state_text Sweep 4 5 ≡ codes "phase sweep, free slots 4, free cells 5\\l"
  pub subject : vertex_text (record { name = codes "al"; serial = 1 } ∷ []) (record { seat = 3; principal = 1; agent = Some 2; target = Some 1 } ∷ [])
      (record { serial = 1; kind = Subject; colour = Grey; is_held = true })
      ≡ codes " 1 [label=\"1 al\\ngrey\\nseat 3\\ntarget 3\",class=\"subject grey\",style=filled,fillcolor=skyblue,penwidth=4,color=gray50];"
  pub document : vertex_text [] (record { seat = 3; principal = 1; agent = Some 2; target = None } ∷ []) (record { serial = 2; kind = Document; colour = White; is_held = false })
      ≡ codes " 2 [label=\"2\\nwhite\\nagent 3\",class=\"document white condemned\",style=dashed,penwidth=1];"
  pub line_feed : byte_text 10 ≡ codes "\\l"
  pub quote : byte_text 34 ≡ codes "\\\""
  pub ampersand : byte_text 38 ≡ codes "&amp;"
