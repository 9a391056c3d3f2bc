-- The pads and keepouts of a component at its place, and what is wrong with one that has none there; all lengths in nm.
use Rattle.std.specs.Prelude.{◌≡◌, ℕ, ◌+◌, ◌⊎◌, List, [], ◌∷◌, ◌++◌, length, slice_get, Option, Some, None}
use Rattle.std.specs.List.{sum_by}
use Rattle.area_geometry.specs.declared.shapes.Shape.{Shape}
use Rattle.board_items.specs.Shapes.{shapes_of}
use Rattle.dsn_turns.specs.Moves.{OneByOne, IsCarried, AreMoved}
use Rattle.dsn_turns.specs.Wides.{point_of}
use Rattle.dsn_lists.specs.declared.faults.DesignFault.{DesignFault}
use Rattle.dsn_lists.specs.declared.faults.DesignKind.TheVariants as kind
use Rattle.dsn_lists.specs.Lists.{told}
use Rattle.dsn_shapes.specs.declared.quotas.Quota.{Quota}
use Rattle.dsn_shapes.specs.QuotaLists.{points_of_shapes, NoQuota}
use Rattle.dsn_library.specs.declared.images.ImagePart.{ImagePart}
use Rattle.dsn_library.specs.declared.images.ImagePart.TheVariants as parts
use Rattle.dsn_placement.specs.declared.placement.PlacedPart.{PlacedPart}
use Rattle.dsn_placement.specs.declared.placement.PlacedPart.TheVariants as placed
use Rattle.dsn_placement.specs.declared.poses.Pose.{Pose}
use Rattle.dsn_placement.specs.Placements.{Ground, over_on, step_of_pin, step_of_pose}

-- The shapes of a part of an image become these on the board. Those of a pin are led through the turn and the move of the
-- pin, then through those of the component; those of a keepout through those of the component alone. On the back they are
-- mirrored, and lie on the layers from the other side.
abbrev pub PartMoves : Ground → Pose → ImagePart → List Shape → Type 0
PartMoves g p (parts.Pin stack id eighths at) ss = AreMoved (step_of_pin eighths at ∷ step_of_pose g.flip p ∷ []) (over_on p.side g.layers) (shapes_of (slice_get g.stacks stack)) ss
PartMoves g p (parts.Keep k shapes) ss = AreMoved (step_of_pose g.flip p ∷ []) (over_on p.side g.layers) shapes ss

-- A pin of the component of this number becomes a pad of its id, and lies where the component's turn and move carry it; a
-- keepout becomes one of its kind.
abbrev pub IsPlaced : Ground → Pose → ℕ → ImagePart → PlacedPart → Type 0
IsPlaced g p n (parts.Pin stack id eighths at) (placed.Pad component pin place ss) = (component ≡ n) × (pin ≡ id) × IsCarried (step_of_pose g.flip p) at (point_of place) × PartMoves g p (parts.Pin stack id eighths at) ss
IsPlaced g p n (parts.Pin stack id eighths at) (placed.Keep k ss) = ⊥
IsPlaced g p n (parts.Keep k shapes) (placed.Pad component pin place ss) = ⊥
IsPlaced g p n (parts.Keep k shapes) (placed.Keep kind ss) = (kind ≡ k) × PartMoves g p (parts.Keep k shapes) ss

-- the component of this number has these pads and keepouts, one for each part of its image; it has none where it is nowhere
abbrev pub ArePlaced : Ground → Option Pose → ℕ → List ImagePart → List PlacedPart → Type 0
ArePlaced g None n qs ps = ps ≡ []
ArePlaced g (Some p) n qs ps = OneByOne (IsPlaced g p n) qs ps

-- ---- quota

-- the shapes of a pad or keepout
abbrev pub shapes_of_placed : PlacedPart → List Shape
shapes_of_placed (placed.Pad component pin place ss) = ss
shapes_of_placed (placed.Keep kind ss) = ss

-- how many points the pads and keepouts have
abbrev pub points_of_parts : List PlacedPart → ℕ
points_of_parts ps = sum_by (λ (p : PlacedPart). points_of_shapes (shapes_of_placed p)) ps

-- each pad or keepout takes an item and its points of the quota, and this is left
pub record AreTaken (quota : Quota) (ps : List PlacedPart) (left : Quota) : Type 0 where
  pub items : quota.items ≡ length ps + left.items
  pub points : quota.points ≡ points_of_parts ps + left.points

-- ---- the first fault

-- why a part has no place, told at this byte: a point of it would be out of range, or there is no room for it
abbrev pub NoPlace : Ground → Pose → Quota → ℕ → ImagePart → DesignFault → Type 0
NoPlace g p quota at q e =
    (((ss : List Shape) → PartMoves g p q ss → ⊥) × (e ≡ told kind.Range at))
    ⊎ ((ss : List Shape) × PartMoves g p q ss × NoQuota quota (points_of_shapes ss) × (e ≡ told kind.Large at))

-- the first fault of the parts of the component of this number: those before one have their place and room, and it has none
pub record PartsFault (g : Ground) (p : Pose) (n : ℕ) (quota : Quota) (at : ℕ) (qs : List ImagePart) (e : DesignFault) : Type 0 where
  pub before : List ImagePart
  pub part : ImagePart
  pub after : List ImagePart
  pub parts : qs ≡ before ++ part ∷ after
  pub put : List PlacedPart
  pub are : OneByOne (IsPlaced g p n) before put
  pub left : Quota
  pub taken : AreTaken quota put left
  pub none : NoPlace g p left at part e
