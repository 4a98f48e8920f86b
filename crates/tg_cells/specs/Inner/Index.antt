-- the index of edges: each edge's cell is in the bucket of its owner and its serial
use Rattle.std.specs.Prelude.{◌≡◌, ℕ, ◌+◌, ◌-◌, ◌*◌, ◌/◌, ◌%◌, ◌^◌, List, bit_and}
use Rattle.tg_lists.specs.Promise.Membership.{Contains}
use Rattle.tg_index.specs.Promise.Rows.{row}
use Rattle.tg_cells.specs.declared.key.Key.{Key}
use Rattle.tg_cells.specs.Promise.Lists.{Edge, owned}

-- the bucket of an owner and a serial, among this many
unfoldable pub bucket_of : Key → ℕ → ℕ → ℕ → ℕ
bucket_of key buckets owner serial =
    bit_and ((serial + (serial / 2 ^ 6 * key.serial % 2 ^ 64 + owner * key.owner % 2 ^ 64) % 2 ^ 64 / 2 ^ 32) % 2 ^ 64) (buckets - 1)

-- a cell is in a bucket for this edge; `place` returns the bucket of an owner and a serial
pub record Entered (place : ℕ → ℕ → ℕ) (lists : List (List Edge)) (b n : ℕ) : Type 0 where
  pub owner : ℕ
  pub edge : Edge
  pub held : Contains (owned lists owner) edge
  pub here : edge.cell ≡ n
  pub bucket : place owner edge.serial ≡ b

-- what is in a bucket is there for an edge, and each edge's cell is in the bucket of its owner and serial
pub record IsIndexed (place : ℕ → ℕ → ℕ) (rows : List (List ℕ)) (lists : List (List Edge)) : Type 0 where
  pub sound : (b n : ℕ) → Contains (row rows b) n → Entered place lists b n
  pub complete : (i : ℕ) (e : Edge) → Contains (owned lists i) e → Contains (row rows (place i e.serial)) e.cell
