use Rattle.std.proofs.Common.{arith}
use Rattle.session_wire.proofs.Halts.{handed_halt}
use Rattle.session_wire.proofs.AddTexts.{all_adds}
use Rattle.session_wire.proofs.Things.{stops_in_things}
use Rattle.session_wire.proofs.adds.adds_at.Goals as goal

pub returns-in_err-add-clause-err : goal.returns-in_err-add-clause-err
returns-in_err-add-clause-err c =
    handed_halt _ c.in_err-add.field-0.0 c.from_residual.ensures.1 c.in_err-add.ensures.err (λ left. stops_in_things all_adds c.loop-turn._turn c.args.count c.args.line.now c.loop-turn.adds c.loop-turn.rest.now left c.loop-turn.invariant (omega (arith, c.loop-turn-test.true)))
