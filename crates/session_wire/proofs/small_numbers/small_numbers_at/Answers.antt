use Rattle.std.proofs.Common.{arith}
use Rattle.session_wire.proofs.Halts.{handed_count}
use Rattle.session_wire.proofs.PointTexts.{smalls}
use Rattle.session_wire.proofs.Things.{stops_in_things}
use Rattle.session_wire.proofs.small_numbers.small_numbers_at.Goals as goal

pub returns-in_err-number-clause-err : goal.returns-in_err-number-clause-err
returns-in_err-number-clause-err c =
    handed_count _ c.in_err-number.field-0.0 c.from_residual.ensures.1 (stops_in_things smalls c.loop-turn._turn c.args.count c.args.line.now c.loop-turn.numbers c.loop-turn.rest.now c.in_err-number.field-0.0 c.loop-turn.invariant (omega (arith, c.loop-turn-test.true)) c.in_err-number.ensures.err)
