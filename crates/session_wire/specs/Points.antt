-- The one spelling of points, in nm: a coordinate below 0 has a minus sign in front of its digits.
use Rattle.std.specs.Prelude.{ℕ, ℤ, ◌≤◌, List, ◌∷◌, ◌++◌, unsigned_abs}
use Rattle.std.specs.Fmt.{signed_decimal}
use Rattle.row_lists.specs.Limits.{coordinate_limit_nm}
use Rattle.seg_geometry.specs.declared.points.Pt.{Pt}

-- a coordinate behind a space
abbrev pub coordinate_text : ℤ → List ℕ
coordinate_text z = 32 ∷ signed_decimal z

-- the coordinates of a point, each behind a space
abbrev pub point_text : Pt → List ℕ
point_text p = coordinate_text p.x ++ coordinate_text p.y

-- a coordinate in range
abbrev pub IsCoordinate : ℤ → Type 0
IsCoordinate z = unsigned_abs z ≤ coordinate_limit_nm
