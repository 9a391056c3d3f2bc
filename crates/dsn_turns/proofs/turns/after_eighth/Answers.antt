use Rattle.std.proofs.Common.{rules, FitsSigned, arith}
use Rattle.std.specs.Prelude.{◌+ℤ◌, ◌-ℤ◌}
use Rattle.std.specs.Int.{w128}
use Rattle.std.proofs.lemmas.Int.{ints, to_z-of_z, fits_signed_from_abs}
use Rattle.dsn_turns.specs.Wides.{point_of}
use Rattle.dsn_turns.proofs.TurnLaws.{begun_odd}
use Rattle.dsn_turns.proofs.turns.after_eighth.Goals as goal

pub returns-clause-point : goal.returns-clause-point
returns-clause-point c =
    let f : FitsSigned w128 c.root.result = search rules in
    let g : FitsSigned w128 c.root-2.result = search rules in
    let near_x = c.requires.x in
    let near_y = c.requires.y in
    let x : FitsSigned w128 c.args.p.x = fits_signed_from_abs w128 _ (omega arith) in
    let y : FitsSigned w128 c.args.p.y = fits_signed_from_abs w128 _ (omega arith) in
    let d : FitsSigned w128 (c.args.p.x -ℤ c.args.p.y) = fits_signed_from_abs w128 _ (omega (arith, ints)) in
    let s : FitsSigned w128 (c.args.p.x +ℤ c.args.p.y) = fits_signed_from_abs w128 _ (omega (arith, ints)) in
    let a = simp (to_z-of_z _ _ x, to_z-of_z _ _ y, to_z-of_z _ _ d) at c.root.ensures.value in
    let b = simp (to_z-of_z _ _ x, to_z-of_z _ _ y, to_z-of_z _ _ s) at c.root-2.ensures.value in
    simp (to_z-of_z _ _ f, to_z-of_z _ _ g) (begun_odd c.args.eighths (point_of c.args.p) c.root.result c.root-2.result c.if-eighths-eq0.false a b)
