use Rattle.std.proofs.Common.{drop, take, map}
use Rattle.std.specs.Prelude.{All}
use Rattle.std.specs.List.{AllByRecursion}
use Rattle.seg_geometry.specs.Points.{IsInRange}
use Rattle.area_geometry.specs.Copper.{Copper, core_points, placed}
use Rattle.area_geometry.specs.declared.shapes.Shape.{Shape}
use Rattle.board_rules.proofs.vias.shapes_in_range.Given as goal

-- The shapes that are left are in range around 0 0, and those before are it where they are moved to.
abbrev pub invariant-loop-shape : goal.invariant-loop-shape
invariant-loop-shape l = record {
  left : AllByRecursion (λ (s : Shape). AllByRecursion IsInRange (core_points s.core)) (drop l.shape-index l.shapes);
  placed_in : All (λ (s : Copper). All IsInRange s.points) (take l.shape-index (map (placed l.at) l.shapes));
}
