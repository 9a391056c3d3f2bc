-- Shapes and outline areas within the limits.
use Rattle.std.specs.Prelude.{ℕ, List}
use Rattle.std.specs.List.{AllByRecursion}
use Rattle.seg_geometry.specs.declared.points.Pt.{Pt}
use Rattle.area_geometry.specs.declared.shapes.Shape.{Shape}
use Rattle.board_rules.specs.Designs.{IsFitShape, IsFitArea}

-- shapes within the limits, on so many layers
abbrev pub AreFitDrawn : ℕ → List Shape → Type 0
AreFitDrawn layers ss = AllByRecursion (IsFitShape layers) ss

-- areas of an outline within the limits
abbrev pub AreFitAreas : List (List Pt) → Type 0
AreFitAreas areas = AllByRecursion IsFitArea areas
