-- the rows that the fields of `Buckets` show
use Rattle.std.specs.Prelude.{◌≤◌}
use Rattle.std.specs.Vec.{vec_capacity}
use Rattle.tg_index.specs.declared.buckets.Buckets.TheInside.{Inside}
use Rattle.tg_index.specs.Promise.Rows.{Rows}
use Rattle.tg_index.specs.Inner.Links.{AreLinked, walked}

abbrev pub view_of : Inside → Rows
view_of s = walked s.heads.items s.links.items s.size

pub record IsInside (s : Inside) : Type 0 where
  pub shown : AreLinked s.heads.items s.links.items (view_of s)
  pub room : s.size ≤ vec_capacity s.links
