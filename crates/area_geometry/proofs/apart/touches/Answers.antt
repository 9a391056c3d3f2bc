use Rattle.std.proofs.Common.{◌≡◌, ◌*◌, length, arith, refl, ap, ◌∙◌}
use Rattle.area_geometry.specs.Copper.{Copper, copper_of, pieces_of}
use Rattle.area_geometry.proofs.PieceLists.{count_area}
use Rattle.area_geometry.proofs.apart.touches.Goals as goal

pub returns-clause-cost : goal.returns-clause-cost
returns-clause-cost g c =
    let n : length (pieces_of (copper_of c.of_area.result)) ≡ length c.args.area.now = ap (λ (z : Copper). length (pieces_of z)) c.of_area.ensures ∙ count_area _ refl in
    omega (arith, c.shape_keeps.ensures.cost, ap (λ k. length (pieces_of (copper_of c.args.s)) * k) n)
