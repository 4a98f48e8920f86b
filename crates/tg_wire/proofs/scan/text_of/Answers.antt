use Rattle.std.proofs.Common.{rules}
use Rattle.std.proofs.lemmas.Str.{IsUtf8-from_ascii}
use Rattle.tg_wire.proofs.AsciiLemmas.{all_ascii}
use Rattle.tg_wire.proofs.scan.text_of.Goals as goal

pub from_utf8_unchecked-requires : goal.from_utf8_unchecked-requires
from_utf8_unchecked-requires c = IsUtf8-from_ascii c.args.bytes.now (all_ascii c.args.bytes.now (search rules))
