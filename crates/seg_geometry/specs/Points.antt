-- Points and segments with whole coordinates, in nanometres, and which way a path turns
-- Cited by `in_range`, `cross_sign` and all that takes points
use Rattle.std.specs.Prelude.{◌≤◌, ℤ, ◌-ℤ◌, ◌*ℤ◌, unsigned_abs}
use Rattle.row_lists.specs.Limits.{coordinate_limit_nm}
use Rattle.seg_geometry.specs.declared.points.Pt.{Pt}
use Rattle.seg_geometry.specs.declared.points.Seg.{Seg}

-- neither coordinate is farther than 1,000,000,000 from 0
pub record IsInRange (p : Pt) : Type 0 where
  pub x : unsigned_abs p.x ≤ coordinate_limit_nm
  pub y : unsigned_abs p.y ≤ coordinate_limit_nm

-- both ends are in range
pub record IsSegInRange (s : Seg) : Type 0 where
  pub a : IsInRange s.a
  pub b : IsInRange s.b

-- twice the signed area of the triangle a, b, c: more than 0 where c lies left of the way from a to b
abbrev pub turn_of : Pt → Pt → Pt → ℤ
turn_of a b c = (b.x -ℤ a.x) *ℤ (c.y -ℤ a.y) -ℤ (b.y -ℤ a.y) *ℤ (c.x -ℤ a.x)
