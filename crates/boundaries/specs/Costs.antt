-- How many steps tests against boundaries take at most: one for each segment or edge and each edge of an area, where the
-- boxes of both, one of them 1 nm wider, meet on a layer of the boundary.
-- Left out: tests that end early. Cited by the clauses `cost`
use Rattle.std.specs.Prelude.{ℕ, ◌+◌, ◌*◌, nat_lt, if◌then◌else◌, List, [], ◌∷◌, length}
use Rattle.std.specs.List.{list_any}
use Rattle.seg_geometry.specs.declared.points.Pt.{Pt}
use Rattle.area_geometry.specs.Copper.{Copper, area_on, pieces_of}
use Rattle.area_geometry.specs.Boxes.{are_boxes_near}
use Rattle.number_slots.specs.Slots.{is_among}
use Rattle.boundaries.specs.Boundaries.{Boundary}

-- a shape against the edges of an area, whatever its layer: none where the boxes miss each other
unfoldable pub near_most : List Pt → Copper → ℕ
near_most area s = if are_boxes_near 1 s (area_on s.layer area) then length (pieces_of s) * length area else 0

-- a shape against the edges of an area on some layers
abbrev pub shape_most : List ℕ → List Pt → Copper → ℕ
shape_most layers area s = if is_among s.layer layers then near_most area s else 0

-- each of the shapes against the edges of an area on some layers
abbrev pub shapes_most : List ℕ → List Pt → List Copper → ℕ
shapes_most layers area [] = 0
shapes_most layers area (s ∷ rest) = shape_most layers area s + shapes_most layers area rest

-- an item's shapes against a boundary
unfoldable pub boundary_most : List Copper → Boundary → ℕ
boundary_most shapes b = shapes_most b.layers b.area shapes

-- an area on some layers against a boundary that has one of them
unfoldable pub overlap_most : List ℕ → List Pt → Boundary → ℕ
overlap_most layers area b = if list_any (λ layer. is_among layer b.layers) layers then near_most b.area (area_on 0 area) else 0

-- a boundary under its number by this measure, where the number is above this one
abbrev pub above_most : (Boundary → ℕ) → ℕ → ℕ × Boundary → ℕ
above_most most above x = if nat_lt above x.0 then most x.1 else 0

-- each boundary of a number above this one, by this measure
abbrev pub fences_most : (Boundary → ℕ) → ℕ → List (ℕ × Boundary) → ℕ
fences_most most above [] = 0
fences_most most above (x ∷ rest) = above_most most above x + fences_most most above rest
