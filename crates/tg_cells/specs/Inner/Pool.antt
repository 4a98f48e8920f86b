-- the cells that two columns represent
use Rattle.std.specs.Prelude.{map}
use Rattle.tg_cells.specs.declared.pool.Cell.{Cell}
use Rattle.tg_cells.specs.declared.pool.Hop.{Hop}
use Rattle.tg_cells.specs.declared.pool.Rest.{Rest}
use Rattle.tg_cells.specs.declared.pool.Pool.TheInside.{Inside}
use Rattle.tg_cells.specs.Inner.Chain.{Pooled}

-- a cell from its two halves, and its halves
abbrev pub whole : Hop × Rest → Cell
whole p = record { next = p.0.next; target = p.0.target; serial = p.1.serial; rights = p.1.rights; owner = p.1.owner; previous = p.1.previous }

abbrev pub hop_of : Cell → Hop
hop_of c = record { next = c.next; target = c.target }

abbrev pub rest_of : Cell → Rest
rest_of c = record { serial = c.serial; owner = c.owner; previous = c.previous; rights = c.rights }

abbrev pub pooled : Inside → Pooled
pooled s = record { items = map whole s.cells.items; room = s.cells.room }
