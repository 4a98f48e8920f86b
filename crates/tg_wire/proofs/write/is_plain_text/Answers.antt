use Rattle.std.proofs.Common.{true}
use Rattle.std.proofs.lemmas.Bool.{OnTrue_at, OnTrue_from}
use Rattle.json.proofs.Printed.Plain.{escape_on_plain}
use Rattle.tg_rights.specs.Promise.Escapes.{NeedsNoEscape}
use Rattle.tg_wire.proofs.write.is_plain_text.Goals as goal

pub returns-then-is_unescaped : goal.returns-then-is_unescaped
returns-then-is_unescaped c =
    OnTrue_from _ _ (λ is. let plain : NeedsNoEscape c.args.text.now = OnTrue_at is c.is_unescaped.ensures in escape_on_plain true c.args.text.now (λ k _ below. plain k below))
