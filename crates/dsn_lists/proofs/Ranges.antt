-- Coordinates, paths and circles within the limits.
use Rattle.std.specs.Prelude.{◌≤◌, length, unsigned_abs, IfSome}
use Rattle.std.specs.List.{AllByRecursion}
use Rattle.seg_geometry.specs.Points.{IsInRange}
use Rattle.dsn_lists.specs.declared.places.Coordinates.{Coordinates}
use Rattle.dsn_lists.specs.declared.shapes.Path.{Path}
use Rattle.dsn_lists.specs.declared.shapes.Circle.{Circle}

-- the points and the x that waits for its y are in range
pub record AreInRange (c : Coordinates) : Type 0 where
  pub points : AllByRecursion IsInRange c.points
  pub half : IfSome c.half (λ x. unsigned_abs x ≤ 1000000000)

-- a path of a width within the limits through two points or more
pub record IsFitPath (p : Path) : Type 0 where
  pub width : p.width ≤ 100000000
  pub points : AllByRecursion IsInRange p.points
  pub count : 2 ≤ length p.points

-- a circle of a width within the limits
pub record IsFitCircle (c : Circle) : Type 0 where
  pub width : c.width ≤ 100000000
  pub centre : IsInRange c.centre
