use Rattle.std.proofs.Common.{rules, w64, FitsSigned, slice_index_or}
use Rattle.std.specs.Prelude.{pos}
use Rattle.std.proofs.lemmas.Int.{to_z-of_z}
use Rattle.seg_geometry.specs.declared.points.Pt.{Pt}
use Rattle.area_geometry.proofs.Places.{PlaceFits, moved_in_range, place_fits, place_is}
use Rattle.area_geometry.proofs.shapes.ShapeView.point.Goals as goal

pub overflow_add-result : goal.overflow_add-result
overflow_add-result c =
    let none : Pt = record { x = pos 0; y = pos 0 } in
    let place = moved_in_range c.args.self.at c.args.self.points.now c.args.i none c.requires.within c.requires.limits.points in
    let fits : PlaceFits c.args.self.at (slice_index_or c.args.self.points.now c.args.i none) = place_fits _ _ place in
    let a : FitsSigned w64 (slice_index_or c.args.self.points.now c.args.i none).x = search rules in
    let b : FitsSigned w64 c.args.self.at.x = search rules in
    simp (to_z-of_z _ _ a, to_z-of_z _ _ b) fits.x

pub overflow_add-result-2 : goal.overflow_add-result-2
overflow_add-result-2 c =
    let none : Pt = record { x = pos 0; y = pos 0 } in
    let place = moved_in_range c.args.self.at c.args.self.points.now c.args.i none c.requires.within c.requires.limits.points in
    let fits : PlaceFits c.args.self.at (slice_index_or c.args.self.points.now c.args.i none) = place_fits _ _ place in
    let d : FitsSigned w64 (slice_index_or c.args.self.points.now c.args.i none).y = search rules in
    let e : FitsSigned w64 c.args.self.at.y = search rules in
    simp (to_z-of_z _ _ d, to_z-of_z _ _ e) fits.y

pub returns-clause-is : goal.returns-clause-is
returns-clause-is c =
    let none : Pt = record { x = pos 0; y = pos 0 } in
    let place = moved_in_range c.args.self.at c.args.self.points.now c.args.i none c.requires.within c.requires.limits.points in
    let fits : PlaceFits c.args.self.at (slice_index_or c.args.self.points.now c.args.i none) = place_fits _ _ place in
    let a : FitsSigned w64 (slice_index_or c.args.self.points.now c.args.i none).x = search rules in
    let b : FitsSigned w64 c.args.self.at.x = search rules in
    let d : FitsSigned w64 (slice_index_or c.args.self.points.now c.args.i none).y = search rules in
    let e : FitsSigned w64 c.args.self.at.y = search rules in
    simp (to_z-of_z _ _ a, to_z-of_z _ _ b, to_z-of_z _ _ d, to_z-of_z _ _ e, to_z-of_z _ _ fits.x, to_z-of_z _ _ fits.y)
    (place_is c.args.self.at c.args.self.points.now c.args.i none c.requires.within)

pub returns-clause-in_range : goal.returns-clause-in_range
returns-clause-in_range c =
    let none : Pt = record { x = pos 0; y = pos 0 } in
    let place = moved_in_range c.args.self.at c.args.self.points.now c.args.i none c.requires.within c.requires.limits.points in
    let fits : PlaceFits c.args.self.at (slice_index_or c.args.self.points.now c.args.i none) = place_fits _ _ place in
    let a : FitsSigned w64 (slice_index_or c.args.self.points.now c.args.i none).x = search rules in
    let b : FitsSigned w64 c.args.self.at.x = search rules in
    let d : FitsSigned w64 (slice_index_or c.args.self.points.now c.args.i none).y = search rules in
    let e : FitsSigned w64 c.args.self.at.y = search rules in
    simp (to_z-of_z _ _ a, to_z-of_z _ _ b, to_z-of_z _ _ d, to_z-of_z _ _ e, to_z-of_z _ _ fits.x, to_z-of_z _ _ fits.y) place
