-- what a run, its pictures and an audit ask of the reader and the writer, and report of them
use Rattle.std.specs.Prelude.{◌≡◌, ◌↔◌, ◌≤◌, ℕ, List, [], true, false, Option, Some}
use Rattle.std.specs.Io.KnownBytes.{Keeps}
use Rattle.std.specs.declared.alloc.Global.{Global}
use Rattle.std.specs.declared.io.buffered.BufWriter.{BufWriter}
use Rattle.tg_talk.specs.Promise.Devices.{device_of, has_failed, owed}
use Rattle.tg_talk.specs.declared.answering.Finished.{Finished}
use Rattle.tg_talk.specs.declared.fault.TalkFault.TheVariants.{OutOfMemory, Reading, Writing}
use Rattle.tg_talk.specs.declared.watched.Watched.{Watched}

-- neither the reader nor the writer has failed, and the writer owes its device nothing
pub record AreReady {R W : Type 0} (reader : Watched R) (writer : Watched (BufWriter W Global)) : Type 0 where
  pub reads : has_failed reader ≡ false
  pub writes : has_failed writer ≡ false
  pub paid : owed writer ≡ []

-- how the lines ended, with the reader as it was at the start, and the reader and the writer as they are at the end
pub record Reports {R W : Type 0} (remaining : R → Option (List ℕ)) (finished : Finished) (start reader : Watched R) (writer : Watched (BufWriter W Global)) : Type 0 where
  -- nothing is held back unless the writer failed
  pub paid : has_failed writer ≡ false → owed writer ≡ []
  pub reading : (has_failed reader ≡ true) ↔ (finished.fault ≡ Some Reading)
  pub writing : (has_failed writer ≡ true) ↔ (finished.fault ≡ Some Writing)
  pub few : finished.lines ≤ 1000001
  -- without memory for the lines none is read
  pub unread : finished.fault ≡ Some OutOfMemory → (finished.lines ≡ 0) × Keeps (remaining (device_of start)) (remaining (device_of reader))
