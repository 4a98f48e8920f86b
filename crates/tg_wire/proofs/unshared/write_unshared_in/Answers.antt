use Rattle.std.proofs.Common.{[], ap, sym}
use Rattle.tg_wire.specs.Promise.Unshared.{unshared_line}
use Rattle.tg_wire.proofs.ObjectLineLemmas.{said_as}
use Rattle.tg_wire.proofs.unshared.write_unshared_in.Goals as goal

pub returns-in-NoSerial : goal.returns-in-NoSerial
unfolding unshared_line
returns-in-NoSerial c = said_as c.worded_line-in-NoSerial.result _ [] (ap unshared_line (sym c.in-NoSerial.is)) c.worded_line-in-NoSerial.ensures

pub returns-in-NoPrincipal : goal.returns-in-NoPrincipal
unfolding unshared_line
returns-in-NoPrincipal c = said_as c.worded_line-in-NoPrincipal.result _ [] (ap unshared_line (sym c.in-NoPrincipal.is)) c.worded_line-in-NoPrincipal.ensures

pub returns-in-NoRights : goal.returns-in-NoRights
unfolding unshared_line
returns-in-NoRights c = said_as c.worded_line-in-NoRights.result _ [] (ap unshared_line (sym c.in-NoRights.is)) c.worded_line-in-NoRights.ensures

pub returns-in-TooMuch : goal.returns-in-TooMuch
unfolding unshared_line
returns-in-TooMuch c = said_as c.worded_line-in-TooMuch.result _ [] (ap unshared_line (sym c.in-TooMuch.is)) c.worded_line-in-TooMuch.ensures
