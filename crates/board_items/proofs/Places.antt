-- The shapes of lists at their place.
use Rattle.std.proofs.Common.{◌≡◌, ℕ, zero, suc, ◌<◌, List, [], ◌∷◌, length, map, arith, refl, ap, subst, ◌∙◌}
use Rattle.std.specs.Prelude.{Some, slice_get, pos, ◌+ℤ◌, ℤ, false}
use Rattle.std.specs.Option.{option_map}
use Rattle.std.proofs.lemmas.Option.{slice_get-map}
use Rattle.std.proofs.lemmas.Int.{ints}
use Rattle.std.proofs.lemmas.List.{length-map}
use Rattle.seg_geometry.specs.declared.points.Pt.{Pt}
use Rattle.area_geometry.specs.declared.shapes.Shape.{Shape}
use Rattle.area_geometry.specs.Copper.{moved, placed}
use Rattle.board_items.specs.declared.items.Padstack.{Padstack}
use Rattle.board_items.specs.Shapes.{origin, chain_on, shapes_of}

nothing_added : (x : ℤ) → x +ℤ pos 0 ≡ x
nothing_added x = omega (arith, ints)

-- points that are moved by nothing stay
pub moved_nowhere : (points : List Pt) → map (moved origin) points ≡ points
moved_nowhere [] = refl
moved_nowhere (p ∷ rest) = λ i. (record { x = nothing_added p.x i; y = nothing_added p.y i }) ∷ moved_nowhere rest i

-- a chain that is moved by nothing
pub chain_is : (layer width : ℕ) (points : List Pt) → record { layer = layer; area = false; points = map (moved origin) points; width = width } ≡ chain_on layer width points
chain_is layer width points = λ i. record { layer = layer; area = false; points = moved_nowhere points i; width = width }

-- a moved list has as many shapes
pub within_placed : (place : Pt) (shapes : List Shape) (i : ℕ) → i < length (map (placed place) shapes) → i < length shapes
within_placed place shapes i h = subst (λ n. i < n) (length-map shapes (placed place)) h

-- a shape of a moved list is the moved shape
pub placed_at : (place : Pt) (shapes : List Shape) (i : ℕ) (s : Shape) → slice_get shapes i ≡ Some s → slice_get (map (placed place) shapes) i ≡ Some (placed place s)
placed_at place shapes i s h = slice_get-map (placed place) shapes i ∙ ap (option_map (placed place)) h

-- a padstack of which there is a shape is there
pub stack_is_there : (place : Pt) (stacks : List Padstack) (n i : ℕ) → i < length (map (placed place) (shapes_of (slice_get stacks n))) → n < length stacks
stack_is_there place [] n i h = absurd (omega arith)
stack_is_there place (p ∷ rest) zero i h = omega arith
stack_is_there place (p ∷ rest) (suc n) i h = let more = stack_is_there place rest n i h in omega arith
