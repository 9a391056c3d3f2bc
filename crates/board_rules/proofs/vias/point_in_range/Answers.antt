use Rattle.std.proofs.Common.{rules, arith, w64, FitsSigned}
use Rattle.std.specs.Prelude.{◌+ℤ◌}
use Rattle.std.proofs.lemmas.Int.{to_z-of_z, fits_signed_from_abs, ints}
use Rattle.board_rules.proofs.vias.point_in_range.Goals as goal

pub returns : goal.returns
returns c =
    let a : FitsSigned w64 c.args.p.x = search rules in
    let b : FitsSigned w64 c.args.at.x = search rules in
    let d : FitsSigned w64 c.args.p.y = search rules in
    let e : FitsSigned w64 c.args.at.y = search rules in
    let x : FitsSigned w64 (c.args.p.x +ℤ c.args.at.x) = fits_signed_from_abs w64 _ (omega (arith, ints)) in
    let y : FitsSigned w64 (c.args.p.y +ℤ c.args.at.y) = fits_signed_from_abs w64 _ (omega (arith, ints)) in
    simp (to_z-of_z _ _ a, to_z-of_z _ _ b, to_z-of_z _ _ d, to_z-of_z _ _ e, to_z-of_z _ _ x, to_z-of_z _ _ y) at c.in_range.ensures
