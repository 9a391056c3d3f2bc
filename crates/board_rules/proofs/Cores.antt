-- Shapes that have their points keep them at a place.
use Rattle.std.proofs.Common.{ℕ, ◌≤◌, List, [], ◌∷◌, map, length, arith}
use Rattle.std.specs.Prelude.{All}
use Rattle.std.specs.List.{AllByRecursion}
use Rattle.std.proofs.lemmas.List.{length-map}
use Rattle.std.proofs.lemmas.List.Elements.{All-nil, All-cons}
use Rattle.seg_geometry.specs.declared.points.Pt.{Pt}
use Rattle.area_geometry.specs.declared.shapes.Core.{Core}
use Rattle.area_geometry.specs.declared.shapes.Core.TheVariants.{Chain, Area}
use Rattle.area_geometry.specs.declared.shapes.Shape.{Shape}
use Rattle.area_geometry.specs.Copper.{is_area, core_points, moved, placed}
use Rattle.board_rules.specs.Designs.{HasCore, least_points, HasEnough, IsFitShape}

core_points_count : (c : Core) → HasCore c → least_points (is_area c) ≤ length (core_points c)
core_points_count (Chain points) h = omega (arith, h)
core_points_count (Area points) h = h

-- a shape that has its points has them at a place
pub placed_core : (place : Pt) (s : Shape) → HasCore s.core → HasEnough (placed place s)
placed_core place s h = rw (length-map (core_points s.core) (moved place)) (core_points_count s.core h)

-- so do all of a list
pub placed_cores : (place : Pt) (layers : ℕ) (ss : List Shape) → AllByRecursion (IsFitShape layers) ss → All HasEnough (map (placed place) ss)
placed_cores place layers [] h = All-nil HasEnough
placed_cores place layers (s ∷ ss) h = All-cons HasEnough (placed place s) (map (placed place) ss) (placed_core place s h.0.core) (placed_cores place layers ss h.1)
