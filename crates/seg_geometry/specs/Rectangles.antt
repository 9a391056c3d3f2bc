-- Rectangles with sides along the axes, closed: their sides belong to them
-- Cited by `rect_of` and `rect_meets`
use Rattle.std.specs.Prelude.{◌≡◌, ℕ, List, ℤ, pos, ◌-ℤ◌, ◌+ℤ◌, ◌≤ℤ◌, All, Any}
use Rattle.seg_geometry.specs.declared.points.Pt.{Pt}
use Rattle.seg_geometry.specs.declared.rectangles.Rect.{Rect}

-- the point lies in the rectangle or on a side of it
pub record Holds (r : Rect) (p : Pt) : Type 0 where
  pub left : r.lo.x ≤ℤ p.x
  pub right : p.x ≤ℤ r.hi.x
  pub low : r.lo.y ≤ℤ p.y
  pub high : p.y ≤ℤ r.hi.y

-- the least rectangle round the points: each point lies in it, and each side touches one
pub record IsLeastRound (r : Rect) (points : List Pt) : Type 0 where
  pub inside : All (Holds r) points
  pub left_reached : Any (λ p. p.x ≡ r.lo.x) points
  pub low_reached : Any (λ p. p.y ≡ r.lo.y) points
  pub right_reached : Any (λ p. p.x ≡ r.hi.x) points
  pub high_reached : Any (λ p. p.y ≡ r.hi.y) points

-- the rectangle with each side moved in by `by`
abbrev pub moved_in : ℕ → Rect → Rect
moved_in by r = record {
  lo = record { x = r.lo.x +ℤ pos by; y = r.lo.y +ℤ pos by };
  hi = record { x = r.hi.x -ℤ pos by; y = r.hi.y -ℤ pos by };
}

-- the least rectangle round the points with each side moved out by `by`
pub record IsLeastGrown (r : Rect) (points : List Pt) (by : ℕ) : Type 0 where
  pub least : IsLeastRound (moved_in by r) points

-- some number lies in both ranges
pub record RangesMeet (low high other_low other_high : ℤ) : Type 0 where
  pub at : ℤ
  pub from_low : low ≤ℤ at
  pub to_high : at ≤ℤ high
  pub from_other_low : other_low ≤ℤ at
  pub to_other_high : at ≤ℤ other_high

-- some point lies in both rectangles
pub record Meets (r s : Rect) : Type 0 where
  pub at : Pt
  pub in_first : Holds r at
  pub in_second : Holds s at
