-- What the designs of the tests have. Numbers are nanometres.
use Rattle.std.specs.Prelude.{ℕ, ◌≡◌, ◌≤◌, List, [], ◌∷◌, length, slice_get, pos}
use Rattle.std.specs.List.{AllByRecursion}
use Rattle.row_lists.specs.Limits.{width_limit_nm}
use Rattle.seg_geometry.specs.Points.{IsInRange}
use Rattle.seg_geometry.specs.declared.points.Pt.{Pt}
use Rattle.area_geometry.specs.Copper.{Copper}
use Rattle.area_geometry.specs.declared.shapes.Core.TheVariants.{Chain, Area}
use Rattle.area_geometry.specs.declared.shapes.Shape.{Shape}
use Rattle.board_items.specs.declared.items.Item.{Item}
use Rattle.board_items.specs.Shapes.{shapes_of}
use Rattle.board_rules.specs.declared.design.Parts.{Parts}
use Rattle.board_rules.specs.Designs.{IsFitItem, HasEnough}

-- copper within the limits that has its points, by recursion on these
pub record IsNear (c : Copper) : Type 0 where
  pub points : AllByRecursion IsInRange c.points
  pub enough : HasEnough c
  pub width : c.width ≤ width_limit_nm

-- a point right of the origin and above it
abbrev pub sample_pt : ℕ → ℕ → Pt
sample_pt x y = record { x = pos x; y = pos y }

-- a circle round the origin
abbrev pub circle_on : ℕ → Shape
circle_on layer = record { layer = layer; core = Chain (sample_pt 0 0 ∷ []); width = 800000 }

-- the shapes of the second padstack
abbrev pub round_shapes : List Shape
round_shapes = circle_on 0 ∷ circle_on 1 ∷ []

-- the shapes of the third padstack
abbrev pub odd_shapes : List Shape
odd_shapes =
    record { layer = 0; core = Chain (sample_pt 0 0 ∷ sample_pt 5 7 ∷ []); width = 30 }
    ∷ record { layer = 1; core = Area (sample_pt 0 0 ∷ sample_pt 9 0 ∷ sample_pt 0 8 ∷ []); width = 0 }
    ∷ []

-- two layers, three nets, and three padstacks of which the last two have these shapes
pub record IsSample (p : Parts) : Type 0 where
  pub layers : length p.layers ≡ 2
  pub nets : length p.nets ≡ 3
  pub stacks : length p.stacks ≡ 3
  pub round : shapes_of (slice_get p.stacks 1) ≡ round_shapes
  pub odd : shapes_of (slice_get p.stacks 2) ≡ odd_shapes

-- items fit for each such design
abbrev pub AreFit : List Item → Type 0
AreFit items = (p : Parts) → IsSample p → AllByRecursion (IsFitItem p) items
