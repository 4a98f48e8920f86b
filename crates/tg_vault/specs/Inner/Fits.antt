-- what is stored beside the store fits the graph of the history, too
use Rattle.std.specs.Prelude.{◌≡◌, ℕ, List}
use Rattle.tg_vault.specs.Inner.Seen.{set_of}
use Rattle.tg_vault.specs.Promise.Contents.{Contents, graph_now, Ties}

-- what a vault keeps, with its next serial and those who have retired, which are the graph's
pub record IsTied (v : Contents) (next : ℕ) (gone : List ℕ) : Type 0 where
  pub joins : Ties v
  pub serial : next ≡ (graph_now v).next
  pub retired : set_of gone ≡ (graph_now v).retired
