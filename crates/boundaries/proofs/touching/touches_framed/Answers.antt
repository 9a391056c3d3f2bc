use Rattle.std.proofs.Common.{◌≡◌, arith, refl, false, true}
use Rattle.area_geometry.specs.Copper.{copper_of}
use Rattle.boundaries.proofs.Nearness.{missed, steps_where_met}
use Rattle.boundaries.proofs.touching.touches_framed.Goals as goal

pub returns-then-not-rect_meets-clause-touches : goal.returns-then-not-rect_meets-clause-touches
returns-then-not-rect_meets-clause-touches g c = (
  λ r. absurd (cc),
  λ t. absurd (missed (copper_of c.args.s) c.args.area.now c.args.own c.args.frame c.requires.own c.requires.frame (λ m. let wrong : false ≡ true = c.if-not-rect_meets.ensures.1 m in absurd (cc)) t),
)

pub returns-clause-cost : goal.returns-clause-cost
returns-clause-cost g c =
    let same = steps_where_met (copper_of c.args.s) c.args.area.now c.args.own c.args.frame c.requires.own c.requires.frame (c.if-not-rect_meets.ensures.0 refl) in
    omega (arith, same, c.touches.ensures.cost)
