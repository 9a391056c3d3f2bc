use Rattle.std.proofs.Common.{◌≡◌, ◌*◌, length, arith, refl, ap, ◌∙◌}
use Rattle.area_geometry.specs.Copper.{Copper, copper_of, pieces_of}
use Rattle.area_geometry.proofs.PieceLists.{count_area}
use Rattle.area_geometry.proofs.Outlines.{lies_by}
use Rattle.area_geometry.proofs.apart.lies_within.Goals as goal

pub returns-clause-within : goal.returns-clause-within
returns-clause-within g c =
    lies_by c.pieces_keep.result (copper_of c.args.s) (copper_of c.of_area-ring.result) c.args.area.now _ c.of_area-ring.ensures (omega (arith, c.from.ensures))
    (c.if-not-begins_inside.ensures.0 refl) (c.if-not-begins_outside.ensures.0 refl) c.pieces_keep.ensures.apart

pub returns-clause-cost : goal.returns-clause-cost
returns-clause-cost g c =
    let n : length (pieces_of (copper_of c.of_area-ring.result)) ≡ length c.args.area.now = ap (λ (z : Copper). length (pieces_of z)) c.of_area-ring.ensures ∙ count_area _ refl in
    omega (arith, c.pieces_keep.ensures.cost, ap (λ k. length (pieces_of (copper_of c.args.s)) * k) n)
