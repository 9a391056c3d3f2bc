use Rattle.std.proofs.Common.{FitsSigned, arith, ◌∙◌}
use Rattle.std.specs.Prelude.{pos, ◌-ℤ◌}
use Rattle.std.specs.Int.{w128}
use Rattle.std.proofs.lemmas.Int.{ints, to_z-of_z, fits_signed_from_abs}
use Rattle.dsn_turns.specs.Wides.{point_of}
use Rattle.dsn_turns.proofs.TurnLaws.{zero_minus, one_quarter, none_left}
use Rattle.dsn_turns.proofs.turns.after_quarters.Goals as goal

pub loop-quarter-preserved : goal.loop-quarter-preserved
loop-quarter-preserved c =
    let q = c.loop-quarter.q in
    let near = c.loop-quarter.invariant.bound in
    let x : FitsSigned w128 q.x = fits_signed_from_abs w128 _ (omega (arith, near.x)) in
    let y : FitsSigned w128 q.y = fits_signed_from_abs w128 _ (omega (arith, near.y)) in
    let m : FitsSigned w128 (pos 0 -ℤ q.y) = fits_signed_from_abs w128 _ (omega (arith, ints, near.y)) in
    simp (to_z-of_z _ _ x, to_z-of_z _ _ y, to_z-of_z _ _ m)
    (record {
      point = one_quarter c.args.count c.loop-quarter._quarter (point_of q) (pos 0 -ℤ q.y) c.loop-quarter-test.true (zero_minus q.y) ∙ c.loop-quarter.invariant.point;
      bound = record { x = omega (arith, ints, near.y); y = near.x };
    })

pub returns-clause-point : goal.returns-clause-point
returns-clause-point c = none_left c.args.count c.loop-quarter._quarter (point_of c.loop-quarter.q) c.loop-quarter-test.false ∙ c.loop-quarter.invariant.point
