use Rattle.std.proofs.Common.{◌++◌, ap, ◌∙◌}
use Rattle.tg_wire.specs.Inner.Flat.{data_of}
use Rattle.tg_wire.specs.Promise.Lines.{line_extras}
use Rattle.tg_wire.specs.Promise.Reading.{knows_all}
use Rattle.tg_wire.proofs.read.is_known_apart.Goals as goal

pub returns : goal.returns
returns c = c.is_known.ensures ∙ ap (λ fields. knows_all (line_extras ++ fields) (data_of c.args.object.now)) c.keys.ensures
