use Rattle.std.proofs.Common.{◌≡◌, rules, w64, FitsSigned}
use Rattle.std.specs.Int.{int_min, int_max}
use Rattle.std.proofs.lemmas.Int.{to_z-of_z}
use Rattle.seg_geometry.proofs.Frames.{ranges_meet_test}
use Rattle.seg_geometry.proofs.rectangles.ranges_meet.Goals as goal

pub returns : goal.returns
returns c =
    let a : FitsSigned w64 c.args.low = search rules in
    let b : FitsSigned w64 c.args.high = search rules in
    let d : FitsSigned w64 c.args.other_low = search rules in
    let e : FitsSigned w64 c.args.other_high = search rules in
    let f : FitsSigned w64 c.max.result = search rules in
    let g : FitsSigned w64 c.min.result = search rules in
    let top : c.max.result ≡ int_max c.args.low c.args.other_low = simp (to_z-of_z _ _ a, to_z-of_z _ _ d) at c.max.ensures.value in
    let bottom : c.min.result ≡ int_min c.args.high c.args.other_high = simp (to_z-of_z _ _ b, to_z-of_z _ _ e) at c.min.ensures.value in
    simp (to_z-of_z _ _ f, to_z-of_z _ _ g) (ranges_meet_test _ _ _ _ _ _ top bottom)
