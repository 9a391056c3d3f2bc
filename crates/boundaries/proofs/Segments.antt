-- Shapes that are walked from the front, and the steps that are kept for those that are left.
use Rattle.std.proofs.Common.{◌≡◌, ℕ, ◌+◌, List, ◌∷◌, length, drop, ap, ◌∙◌}
use Rattle.std.specs.Prelude.{slice_get, Some, Any}
use Rattle.std.proofs.lemmas.Option.{slice_get_within, get_or_from_slice_get}
use Rattle.seg_geometry.specs.declared.points.Pt.{Pt}
use Rattle.area_geometry.specs.Copper.{Copper, area_on, pieces_of}
use Rattle.area_geometry.proofs.PieceLists.{length-area_edges}
use Rattle.boundaries.specs.Costs.{shape_most, shapes_most}
use Rattle.number_slots.proofs.ByNumber.{left_at}

-- what is left begins with the element that stands there
pub left_is : {T : Type 0} (xs : List T) (i : ℕ) (x : T) → slice_get xs i ≡ Some x → drop i xs ≡ x ∷ drop (i + 1) xs
left_is xs i x e =
    left_at xs i x (slice_get_within xs i x e) ∙ ap (λ y. y ∷ drop (i + 1) xs) (get_or_from_slice_get xs i x x e)

-- the shapes that are left begin with this one
pub shapes_left : (layers : List ℕ) (area : List Pt) (xs : List Copper) (i : ℕ) (x : Copper) → slice_get xs i ≡ Some x → shapes_most layers area (drop i xs) ≡ shape_most layers area x + shapes_most layers area (drop (i + 1) xs)
shapes_left layers area xs i x e = ap (shapes_most layers area) (left_is xs i x e)

-- an area has as many edges as points
pub length-area : (layer : ℕ) (area : List Pt) → length (pieces_of (area_on layer area)) ≡ length area
unfolding pieces_of
length-area layer area = length-area_edges area

-- what stands at a place is one of all
pub any_at : {T : Type 0} (P : T → Type 0) (xs : List T) (i : ℕ) (x : T) → slice_get xs i ≡ Some x → P x → Any P xs
any_at P xs i x e h = (i, x, slice_get_within xs i x e, get_or_from_slice_get xs i x x e, h)
