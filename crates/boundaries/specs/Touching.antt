-- What touches a boundary, and which boundaries stand in a client's way.
-- Models: copper that lies in part in an area on one of its layers. Left out: what the copper belongs to. Cited by the
-- readers of `Fences` and by `touches_area`
use Rattle.std.specs.Prelude.{ℕ, ◌≡◌, ◌<◌, true, List, Any}
use Rattle.seg_geometry.specs.declared.points.Pt.{Pt}
use Rattle.area_geometry.specs.Copper.{Copper, area_on}
use Rattle.area_geometry.specs.Apart.{Touches}
use Rattle.number_slots.specs.Slots.{is_among, IsAt}
use Rattle.boundaries.specs.Boundaries.{Boundary, IsEntitled}

-- the shape lies on one of the layers, and isn't apart by 1 nm from the area
pub record IsTouching (layers : List ℕ) (area : List Pt) (s : Copper) : Type 0 where
  pub on_layer : is_among s.layer layers ≡ true
  pub touches : Touches s area

-- some shape touches the area on the layers
pub record TouchesArea (shapes : List Copper) (layers : List ℕ) (area : List Pt) : Type 0 where
  pub some : Any (IsTouching layers area) shapes

-- some shape touches the boundary
abbrev pub TouchesBoundary : List Copper → Boundary → Type 0
TouchesBoundary shapes b = TouchesArea shapes b.layers b.area

-- the live boundary of this number is touched by the shapes
pub record IsTouched (fences : List (ℕ × Boundary)) (shapes : List Copper) (n : ℕ) : Type 0 where
  pub boundary : Boundary
  pub boundary_is : IsAt fences n boundary
  pub touched : TouchesBoundary shapes boundary

-- the number is greater than this one, and its live boundary is touched by the shapes and doesn't entitle the client
pub record IsForeign (fences : List (ℕ × Boundary)) (shapes : List Copper) (client above n : ℕ) : Type 0 where
  pub past : above < n
  pub boundary : Boundary
  pub boundary_is : IsAt fences n boundary
  pub foreign : IsEntitled boundary client → ⊥
  pub touched : TouchesBoundary shapes boundary

-- the area on these layers has a layer in common with the boundary, whose area isn't apart by 1 nm from it; areas are
-- seen on one layer
pub record Overlaps (layers : List ℕ) (area : List Pt) (b : Boundary) : Type 0 where
  pub common : Any (λ layer. is_among layer b.layers ≡ true) layers
  pub near : Touches (area_on 0 area) b.area

-- the area overlaps the live boundary of this number, which doesn't entitle the client
pub record IsOverlapped (fences : List (ℕ × Boundary)) (layers : List ℕ) (area : List Pt) (client n : ℕ) : Type 0 where
  pub boundary : Boundary
  pub boundary_is : IsAt fences n boundary
  pub foreign : IsEntitled boundary client → ⊥
  pub overlaps : Overlaps layers area boundary
