-- The box of a shape: the least rectangle round its points, grown by half of its width; all lengths in nanometres
-- Cited by `box_of`, `shapes_are_near_or_apart` and `near_boxes_reach_each_other`
use Rattle.std.specs.Prelude.{◌≡◌, ℕ, ◌+◌, ◌==◌, Bool, ◌&&◌, List, ℤ, pos, ◌+ℤ◌, int_le}
use Rattle.std.specs.Int.{div_ceil}
use Rattle.std.specs.List.{list_any}
use Rattle.seg_geometry.specs.declared.points.Pt.{Pt}
use Rattle.seg_geometry.specs.declared.rectangles.Rect.{Rect}
use Rattle.seg_geometry.specs.Rectangles.{IsLeastGrown, Meets}
use Rattle.area_geometry.specs.Copper.{Copper}

-- half of a number, rounded up
abbrev pub half_up : ℕ → ℕ
half_up n = div_ceil n 2

-- the rectangle is the shape's box with each side moved out by `by` more
pub record IsBox (r : Rect) (s : Copper) (by : ℕ) : Type 0 where
  pub box : IsLeastGrown r s.points (half_up s.width + by)

-- two shapes lie on one layer, and their boxes meet, with that of the first moved out by `by` more
pub record AreBoxesNear (by : ℕ) (s t : Copper) : Type 0 where
  pub same_layer : s.layer ≡ t.layer
  pub box : Rect
  pub other : Rect
  pub box_is : IsBox box s by
  pub other_is : IsBox other t 0
  pub meet : Meets box other

-- whether, along an axis, some point of the first reaches some point of the second with g more
abbrev pub reaches : (Pt → ℤ) → ℕ → List Pt → List Pt → Bool
reaches f g ps qs = list_any (λ p. list_any (λ q. int_le (f q) (f p +ℤ pos g)) qs) ps

-- whether two shapes lie on one layer and each reaches the other along both axes, with half of both widths and `by` more
unfoldable pub are_boxes_near : ℕ → Copper → Copper → Bool
are_boxes_near by s t =
    let g = half_up s.width + by + half_up t.width in
    (s.layer == t.layer)
    && (reaches (λ p. p.x) g s.points t.points && reaches (λ p. p.x) g t.points s.points)
    && (reaches (λ p. p.y) g s.points t.points && reaches (λ p. p.y) g t.points s.points)
