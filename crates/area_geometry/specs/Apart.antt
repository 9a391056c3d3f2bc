-- When shapes are apart: each segment or edge keeps its distance from each of the other shape, and neither begins in the other
-- Cited by `shape_keeps`, `touches` and `lies_within`
use Rattle.std.specs.Prelude.{◌≡◌, ℕ, ◌+◌, ◌*◌, List, [], ◌∷◌, ◌++◌, length, true, false, All, ⊤}
use Rattle.seg_geometry.specs.declared.points.Pt.{Pt}
use Rattle.seg_geometry.specs.Apart.{IsApart}
use Rattle.area_geometry.specs.Copper.{Copper, pieces_of, area_on}
use Rattle.area_geometry.specs.Rings.{IsInside}

-- each segment or edge of the one keeps k/2 from each of the other
pub record AreAllApart (s t : Copper) (k : ℕ) : Type 0 where
  pub each : All (λ a. All (λ b. IsApart a b k) (pieces_of t)) (pieces_of s)

-- how many pairs of a segment or edge of the one and one of the other there are
abbrev pub pair_count : Copper → Copper → ℕ
pair_count s t = length (pieces_of s) * length (pieces_of t)

-- the first of the points doesn't lie in the area within the ring
abbrev pub IsFirstOutside : List Pt → List Pt → Type 0
IsFirstOutside [] ring = ⊤
IsFirstOutside (p ∷ rest) ring = ¬ (IsInside p ring)

-- where t is an area, s doesn't begin in it
pub record BeginsOutside (s t : Copper) : Type 0 where
  pub outside : t.area ≡ true → IsFirstOutside s.points t.points

-- two cores keep k/2, and neither begins in the other
pub record AreCoresApart (s t : Copper) (k : ℕ) : Type 0 where
  pub pieces : AreAllApart s t k
  pub first : BeginsOutside s t
  pub other_first : BeginsOutside t s

-- two shapes are apart by c: they lie on different layers, or their cores keep c and half of both widths
pub record AreShapesApart (s t : Copper) (c : ℕ) : Type 0 where
  pub apart : s.layer ≡ t.layer → AreCoresApart s t (s.width + t.width + 2 * c)

-- the shape isn't apart by 1 nm from the area within the ring, seen as one of width 0 on the shape's layer
pub record Touches (s : Copper) (ring : List Pt) : Type 0 where
  pub near : ¬ (AreShapesApart s (area_on s.layer ring) 1)

-- the points of the closed ring: the first one stands at its end again
abbrev pub ring_points : List Pt → List Pt
ring_points [] = []
ring_points (p ∷ rest) = p ∷ (rest ++ p ∷ [])

-- the closed ring of an area's edges as a chain of width 0
abbrev pub ring_on : ℕ → List Pt → Copper
ring_on layer points = record { layer = layer; area = false; points = ring_points points; width = 0 }

-- the first of the points lies in the area within the ring
abbrev pub IsFirstInside : List Pt → List Pt → Type 0
IsFirstInside [] ring = ⊥
IsFirstInside (p ∷ rest) ring = IsInside p ring

-- the shape begins in the area, and is apart by 1 nm from the area's ring, seen as a chain on the shape's layer
pub record LiesWithin (s : Copper) (area : List Pt) : Type 0 where
  pub begins : IsFirstInside s.points area
  pub apart : AreShapesApart s (ring_on s.layer area) 1
