-- A placement within the limits.
use Rattle.std.specs.Prelude.{◌≡◌, ℕ, ◌+◌, ◌≤◌, length}
use Rattle.std.specs.List.{AllByRecursion}
use Rattle.dsn_shapes.specs.declared.quotas.Quota.{Quota}
use Rattle.dsn_shapes.specs.Limits.{AreFitDrawn}
use Rattle.dsn_placement.specs.declared.placement.PlacedPart.{PlacedPart}
use Rattle.dsn_placement.specs.declared.placement.Placement.{Placement}
use Rattle.dsn_placement.specs.PlaceParts.{shapes_of_placed, points_of_parts}

-- the shapes of a pad or keepout are within the limits
abbrev pub IsFitPlaced : ℕ → PlacedPart → Type 0
IsFitPlaced layers x = AreFitDrawn layers (shapes_of_placed x)

-- a placement on so many layers: each component has an image; pads and keepouts are within the limits, and none has more
-- shapes than this quota has points; and they and the points of their shapes took their part of the quota
pub record IsFitPlacement (layers : ℕ) (quota : Quota) (p : Placement) : Type 0 where
  pub images : length p.images ≡ length p.components
  pub parts : AllByRecursion (IsFitPlaced layers) p.parts
  pub few : AllByRecursion (λ (x : PlacedPart). length (shapes_of_placed x) ≤ quota.points) p.parts
  pub items : length p.parts + p.quota.items ≡ quota.items
  pub points : points_of_parts p.parts + p.quota.points ≡ quota.points
