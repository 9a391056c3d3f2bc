-- Steps are at most as many as pairs.
use Rattle.std.proofs.Common.{ℕ, ◌*◌, ◌≤◌, List, [], ◌∷◌, Bool, true, false, cond, length, arith, ap}
use Rattle.std.specs.List.{list_any}
use Rattle.seg_geometry.specs.declared.points.Pt.{Pt}
use Rattle.area_geometry.specs.Copper.{Copper, area_on, pieces_of}
use Rattle.area_geometry.specs.Boxes.{are_boxes_near}
use Rattle.number_slots.specs.Slots.{is_among}
use Rattle.board_items.specs.Segments.{segments_in}
use Rattle.boundaries.specs.Boundaries.{Boundary}
use Rattle.boundaries.specs.Costs.{near_most, shape_most, shapes_most, boundary_most, overlap_most}
use Rattle.boundaries.proofs.Segments.{length-area}

if_at_most : (b : Bool) (n m : ℕ) → n ≤ m → cond b n 0 ≤ m
if_at_most true n m le = le
if_at_most false n m le = omega arith

near_at_most : (area : List Pt) (s : Copper) → near_most area s ≤ length (pieces_of s) * length area
unfolding near_most
near_at_most area s = if_at_most (are_boxes_near 1 s (area_on s.layer area)) (length (pieces_of s) * length area) _ (omega arith)

shapes_at_most : (layers : List ℕ) (area : List Pt) (shapes : List Copper) → shapes_most layers area shapes ≤ segments_in shapes * length area
unfolding segments_in
shapes_at_most layers area [] = omega arith
shapes_at_most layers area (s ∷ rest) =
    let first : shape_most layers area s ≤ length (pieces_of s) * length area = if_at_most (is_among s.layer layers) (near_most area s) _ (near_at_most area s) in
    let more = shapes_at_most layers area rest in
    omega (arith, first, more)

pub touching_at_most : (shapes : List Copper) (b : Boundary) → boundary_most shapes b ≤ segments_in shapes * length b.area
unfolding boundary_most
touching_at_most shapes b = shapes_at_most b.layers b.area shapes

pub overlapping_at_most : (layers : List ℕ) (area : List Pt) (b : Boundary) → overlap_most layers area b ≤ length area * length b.area
unfolding overlap_most
overlapping_at_most layers area b =
    let near = near_at_most b.area (area_on 0 area) in
    let edges = ap (λ (n : ℕ). n * length b.area) (length-area 0 area) in
    if_at_most (list_any (λ layer. is_among layer b.layers) layers) (near_most b.area (area_on 0 area)) _ (omega (arith, near, edges))
