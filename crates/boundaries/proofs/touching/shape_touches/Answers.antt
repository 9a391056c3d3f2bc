use Rattle.area_geometry.specs.Copper.{copper_of}
use Rattle.boundaries.proofs.Nearness.{no_points, nothing_touches}
use Rattle.boundaries.proofs.touching.shape_touches.Goals as goal

pub returns-then-is_empty-clause-touches : goal.returns-then-is_empty-clause-touches
returns-then-is_empty-clause-touches g c = (
  λ r. absurd (cc),
  λ t. absurd (nothing_touches (copper_of c.args.s) c.args.area.now (no_points c.args.s.at c.args.s.points.now c.if-is_empty.ensures) t.touches),
)
