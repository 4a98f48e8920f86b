use Rattle.tg_marking.proofs.SessionLemmas.{reroots_keeps, puts_keeps, shades_keeps, places_keeps, drops_keeps, rewrites_keeps, blank_keeps}
use Rattle.tg_marking.proofs.sessions_keep.Goals as goal

pub returns : goal.returns
returns c = record { reroots = reroots_keeps; puts_edge = puts_keeps; shades = shades_keeps; places = places_keeps; drops_edge = drops_keeps; rewrites = rewrites_keeps; blank = blank_keeps }
