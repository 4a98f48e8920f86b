use Rattle.std.proofs.Common.{◌||◌, bit_xor, leb, map, replicate, sym, ap, ◌∙◌, arith}
use Rattle.std.proofs.lemmas.Bool.{eqb-true, not-false}
use Rattle.std.proofs.lemmas.List.{length-map}
use Rattle.std.proofs.lemmas.Simd.{map-map, zip2_splat, zip2_splat_left}
use Rattle.json.specs.Run.{is_stop}
use Rattle.tg_wire.proofs.StopsLemmas.{chosen, equals, is_at_most, less_by, either, masked, none_of_either}
use lib.Lanes.{zip2, sel_l, top}
use Rattle.tg_wire.proofs.scan.has_stop.Goals as goal

pub returns : goal.returns
returns c e =
    let v = c.args.bytes in
    let long = c.fits-bytes.0 in
    let turned = map (λ x. bit_xor x 2) v in
    let low = ap (λ l. zip2 less_by l (replicate 64 33)) (zip2_splat bit_xor v 64 2 long) ∙ zip2_splat less_by turned 64 33 (length-map v _ ∙ long) ∙ map-map _ _ v in
    let backslash = ap (λ l. sel_l (map (top 7) l) (replicate 64 255) (replicate 64 0)) (zip2_splat equals v 64 92 long) ∙ ap (λ l. sel_l l (replicate 64 255) (replicate 64 0)) (map-map _ _ v) ∙ chosen _ 255 0 v 64 long in
    let found = either _ _ v low backslash in
    let above = ap (zip2 is_at_most (replicate 64 128)) found ∙ zip2_splat_left is_at_most 128 64 (map _ v) (length-map v _ ∙ long) ∙ map-map _ _ v in
    let mask = masked _ (λ x. is_stop x || leb 161 (bit_xor x 2)) v _ (omega (arith, long)) c.fits-bytes.1 above tt in
    none_of_either is_stop _ v (sym mask ∙ eqb-true _ 0 (not-false _ e))
