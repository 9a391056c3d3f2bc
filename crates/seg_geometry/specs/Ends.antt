-- What decides whether two segments keep a distance: whether they cross, and how far each end is from the other segment
-- Cited by the steps of `seg_keeps`; its promise is `IsApart`
use Rattle.std.specs.Prelude.{ℕ, ◌<◌, ◌≤◌, ◌*◌, ℤ, pos, neg_ℤ, ◌-ℤ◌, ◌*ℤ◌, ◌≤ℤ◌, ◌<ℤ◌, ◌⊎◌}
use Rattle.seg_geometry.specs.declared.points.Pt.{Pt}
use Rattle.seg_geometry.specs.declared.points.Seg.{Seg}
use Rattle.seg_geometry.specs.Apart.{along, square_of}

-- q² times the squared distance between a point and the point r/q of the way along t
unfoldable pub point_gap_squared : ℕ → ℕ → Pt → Seg → ℤ
point_gap_squared q r p t = square_of (pos q *ℤ p.x -ℤ along q r t.a.x t.b.x) (pos q *ℤ p.y -ℤ along q r t.a.y t.b.y)

-- no point of t is nearer than k/2 to p
pub record IsPointApart (p : Pt) (t : Seg) (k : ℕ) : Type 0 where
  pub apart : (q r : ℕ) → 0 < q → r ≤ q → pos (q * q * (k * k)) ≤ℤ (pos 4 *ℤ point_gap_squared q r p t)

-- the cross product of two vectors
unfoldable pub cross_of : ℤ → ℤ → ℤ → ℤ → ℤ
cross_of ux uy vx vy = ux *ℤ vy -ℤ uy *ℤ vx

-- first/scale and second/scale are fractions between 0 and 1, the scale being above 0
pub record IsInUnitSquare (scale first second : ℤ) : Type 0 where
  pub scale_positive : pos 0 <ℤ scale
  pub first_low : pos 0 ≤ℤ first
  pub first_high : first ≤ℤ scale
  pub second_low : pos 0 ≤ℤ second
  pub second_high : second ≤ℤ scale

-- the quotients of two numbers by a third, whose sign may be either, are fractions between 0 and 1
abbrev pub IsUnitQuotient : ℤ → ℤ → ℤ → Type 0
IsUnitQuotient scale first second = IsInUnitSquare scale first second ⊎ IsInUnitSquare (neg_ℤ scale) (neg_ℤ first) (neg_ℤ second)

-- s and t are not parallel and have a point in common: by Cramer's rule it lies first/scale along s and second/scale along t
pub record IsMeeting (s t : Seg) : Type 0 where
  pub meeting : IsUnitQuotient
      (cross_of (s.b.x -ℤ s.a.x) (s.b.y -ℤ s.a.y) (t.b.x -ℤ t.a.x) (t.b.y -ℤ t.a.y))
      (cross_of (t.b.x -ℤ t.a.x) (t.b.y -ℤ t.a.y) (s.a.x -ℤ t.a.x) (s.a.y -ℤ t.a.y))
      (cross_of (s.b.x -ℤ s.a.x) (s.b.y -ℤ s.a.y) (s.a.x -ℤ t.a.x) (s.a.y -ℤ t.a.y))

-- each end of either segment keeps the distance from the other segment
pub record EndsApart (s t : Seg) (k : ℕ) : Type 0 where
  pub a : IsPointApart s.a t k
  pub b : IsPointApart s.b t k
  pub other_a : IsPointApart t.a s k
  pub other_b : IsPointApart t.b s k
