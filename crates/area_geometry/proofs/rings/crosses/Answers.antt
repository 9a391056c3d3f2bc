use Rattle.std.proofs.Common.{rules, w8, w64, FitsSigned, true, false}
use Rattle.std.proofs.lemmas.Int.{to_z-of_z}
use Rattle.seg_geometry.specs.Points.{turn_of}
use Rattle.area_geometry.proofs.Crossings.{IsSign, counts-falling, counts-rising, counts-level}
use Rattle.area_geometry.proofs.rings.crosses.Goals as goal

pub returns-in-true-false : goal.returns-in-true-false
returns-in-true-false c =
    let a : FitsSigned w64 c.args.v.y = search rules in
    let b : FitsSigned w64 c.args.edge.a.y = search rules in
    let d : FitsSigned w64 c.args.edge.b.y = search rules in
    let r : FitsSigned w8 c.cross_sign.result = search rules in
    let sign : IsSign c.cross_sign.result (turn_of c.args.edge.a c.args.edge.b c.args.v) = record { left = c.cross_sign.ensures.left; right = c.cross_sign.ensures.right; straight = c.cross_sign.ensures.straight } in
    let starts = simp (to_z-of_z _ _ a, to_z-of_z _ _ b) at c.in-true-false.is-0 in
    let ends = simp (to_z-of_z _ _ a, to_z-of_z _ _ d) at c.in-true-false.is-1 in
    simp (to_z-of_z _ _ r) (counts-falling c.args.v c.args.edge c.cross_sign.result starts ends sign)

pub returns-in-false-true : goal.returns-in-false-true
returns-in-false-true c =
    let a : FitsSigned w64 c.args.v.y = search rules in
    let b : FitsSigned w64 c.args.edge.a.y = search rules in
    let d : FitsSigned w64 c.args.edge.b.y = search rules in
    let r : FitsSigned w8 c.cross_sign-in-false-true.result = search rules in
    let sign : IsSign c.cross_sign-in-false-true.result (turn_of c.args.edge.a c.args.edge.b c.args.v) = record { left = c.cross_sign-in-false-true.ensures.left; right = c.cross_sign-in-false-true.ensures.right; straight = c.cross_sign-in-false-true.ensures.straight } in
    let starts = simp (to_z-of_z _ _ a, to_z-of_z _ _ b) at c.in-false-true.is-0 in
    let ends = simp (to_z-of_z _ _ a, to_z-of_z _ _ d) at c.in-false-true.is-1 in
    simp (to_z-of_z _ _ r) (counts-rising c.args.v c.args.edge c.cross_sign-in-false-true.result starts ends sign)

pub returns-in_default : goal.returns-in_default
returns-in_default c =
    let a : FitsSigned w64 c.args.v.y = search rules in
    let b : FitsSigned w64 c.args.edge.a.y = search rules in
    let d : FitsSigned w64 c.args.edge.b.y = search rules in
    let starts = simp (to_z-of_z _ _ a, to_z-of_z _ _ b) at c.in_default.is-0 in
    let ends = simp (to_z-of_z _ _ a, to_z-of_z _ _ d) at c.in_default.is-1 in
    counts-level c.args.v c.args.edge true starts ends

pub returns-in_default-2 : goal.returns-in_default-2
returns-in_default-2 c =
    let a : FitsSigned w64 c.args.v.y = search rules in
    let b : FitsSigned w64 c.args.edge.a.y = search rules in
    let d : FitsSigned w64 c.args.edge.b.y = search rules in
    let starts = simp (to_z-of_z _ _ a, to_z-of_z _ _ b) at c.in_default.is-0 in
    let ends = simp (to_z-of_z _ _ a, to_z-of_z _ _ d) at c.in_default.is-1 in
    counts-level c.args.v c.args.edge false starts ends
