use Rattle.std.proofs.Common.{◌∙◌, ◌∷◌, [], arith, refl}
use Rattle.std.proofs.lemmas.Bool.{cond_above, cond_below}
use Rattle.std.proofs.lemmas.List.{length-map, map-append, map-set}
use Rattle.tg_cells.specs.Inner.Pool.{hop_of, rest_of, whole}
use Rattle.tg_cells.proofs.pool.Pool.write.Goals as goal

pub returns-then-number-len-clause-items : goal.returns-then-number-len-clause-items
returns-then-number-len-clause-items c =
    let within = c.if-number-len.true in
    let count = c.len.ensures in
    rw (← c.self.view_is, c.set.ensures, c.halves-rest.ensures.hop, c.halves-rest.ensures.rest)
    (map-set whole c.self.inside.cells.items c.args.number (hop_of c.args.cell, rest_of c.args.cell) ∙ cond_below c.args.number _ _ _ (omega (arith, within, count, length-map c.self.inside.cells.items whole)))

pub returns-else-number-len-clause-items : goal.returns-else-number-len-clause-items
returns-else-number-len-clause-items c =
    let past = c.if-number-len.false in
    let count = c.len.ensures in
    rw (← c.self.view_is, c.push.ensures.items, c.halves-rest.ensures.hop, c.halves-rest.ensures.rest)
    (map-append whole c.self.inside.cells.items ((hop_of c.args.cell, rest_of c.args.cell) ∷ []) ∙ cond_above c.args.number _ _ _ _ (omega (arith, past, count, length-map c.self.inside.cells.items whole)) refl)
