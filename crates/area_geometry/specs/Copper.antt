-- Copper at its place: the segments of chains and the edges of areas; all lengths in nanometres
-- Cited by every call that takes a shape
use Rattle.std.specs.Prelude.{◌≤◌, ℕ, List, [], ◌∷◌, ◌++◌, Bool, true, false, map, All, ◌+ℤ◌, cond}
use Rattle.row_lists.specs.Limits.{width_limit_nm}
use Rattle.seg_geometry.specs.declared.points.Pt.{Pt}
use Rattle.seg_geometry.specs.declared.points.Seg.{Seg}
use Rattle.seg_geometry.specs.Points.{IsInRange}
use Rattle.area_geometry.specs.declared.shapes.Core.{Core}
use Rattle.area_geometry.specs.declared.shapes.Core.TheVariants.{Chain, Area}
use Rattle.area_geometry.specs.declared.shapes.Shape.{Shape}
use Rattle.area_geometry.specs.declared.shapes.ShapeView.{ShapeView}

-- a shape at its place: its points run round an area or along a chain
pub record Copper : Type 0 where
  pub layer : ℕ
  pub area : Bool
  pub points : List Pt
  pub width : ℕ

-- the point, moved by another
abbrev pub moved : Pt → Pt → Pt
moved at p = record { x = p.x +ℤ at.x; y = p.y +ℤ at.y }

-- what a view shows
abbrev pub copper_of : ShapeView → Copper
copper_of s = record { layer = s.layer; area = s.area; points = map (moved s.at) s.points.now; width = s.width }

-- a core's points run round an area
abbrev pub is_area : Core → Bool
is_area (Chain points) = false
is_area (Area points) = true

-- the points of a core
abbrev pub core_points : Core → List Pt
core_points (Chain points) = points
core_points (Area points) = points

-- a shape at a place: moved by the point
abbrev pub placed : Pt → Shape → Copper
placed at s = record { layer = s.layer; area = is_area s.core; points = map (moved at) (core_points s.core); width = s.width }

-- an area of width 0
abbrev pub area_on : ℕ → List Pt → Copper
area_on layer points = record { layer = layer; area = true; points = points; width = 0 }

-- the points are in range, and the width is at most a tenth of a metre
pub record IsWithinLimits (s : Copper) : Type 0 where
  pub points : All IsInRange s.points
  pub width : s.width ≤ width_limit_nm

-- the segments that lead from a point through each of the others in turn
unfoldable pub path : Pt → List Pt → List Seg
path p [] = []
path p (q ∷ rest) = record { a = p; b = q } ∷ path q rest

-- the segments of a chain: a single point is a segment of length zero
unfoldable pub chain_segments : List Pt → List Seg
chain_segments [] = []
chain_segments (p ∷ []) = path p (p ∷ [])
chain_segments (p ∷ q ∷ rest) = path p (q ∷ rest)

-- the edges of an area, the last of which leads back to the first point
unfoldable pub area_edges : List Pt → List Seg
area_edges [] = []
area_edges (p ∷ rest) = path p (rest ++ p ∷ [])

-- the edges or segments of a shape
unfoldable pub pieces_of : Copper → List Seg
pieces_of s = cond s.area (area_edges s.points) (chain_segments s.points)
