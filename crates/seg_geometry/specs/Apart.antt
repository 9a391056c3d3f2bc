-- When two segments keep a distance: spoken of all their points at rational places, where the least distance is reached
-- Cited by `seg_keeps`
use Rattle.std.specs.Prelude.{ℕ, ◌<◌, ◌≤◌, ◌-◌, ◌*◌, ℤ, pos, ◌+ℤ◌, ◌-ℤ◌, ◌*ℤ◌, ◌≤ℤ◌}
use Rattle.seg_geometry.specs.declared.points.Seg.{Seg}

-- q times the coordinate of the point that lies p/q of the way from a to b
unfoldable pub along : ℕ → ℕ → ℤ → ℤ → ℤ
along q p a b = pos (q - p) *ℤ a +ℤ pos p *ℤ b

-- the square of the length of a vector
unfoldable pub square_of : ℤ → ℤ → ℤ
square_of x y = x *ℤ x +ℤ y *ℤ y

-- q² times the squared distance between the point p/q of the way along s and the point r/q of the way along t
unfoldable pub gap_squared : ℕ → ℕ → ℕ → Seg → Seg → ℤ
gap_squared q p r s t =
    square_of (along q p s.a.x s.b.x -ℤ along q r t.a.x t.b.x) (along q p s.a.y s.b.y -ℤ along q r t.a.y t.b.y)

-- no two points of s and t, with fractions for their places, are nearer than k/2
pub record IsApart (s t : Seg) (k : ℕ) : Type 0 where
  pub apart : (q p r : ℕ) → 0 < q → p ≤ q → r ≤ q → pos (q * q * (k * k)) ≤ℤ (pos 4 *ℤ gap_squared q p r s t)
