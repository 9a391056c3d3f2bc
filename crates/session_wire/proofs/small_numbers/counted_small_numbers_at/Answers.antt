use Rattle.std.proofs.Common.{arith}
use Rattle.session_wire.proofs.Halts.{handed_count, same_halt}
use Rattle.session_wire.proofs.PointTexts.{smalls}
use Rattle.session_wire.proofs.Things.{stops_at_count, stops_behind_count}
use Rattle.session_wire.proofs.small_numbers.counted_small_numbers_at.Goals as goal

pub returns-in_err-count-clause-err : goal.returns-in_err-count-clause-err
returns-in_err-count-clause-err c =
    handed_count _ c.in_err-count.field-0.0 c.from_residual.ensures.1 (stops_at_count smalls c.args.least c.args.most c.args.line.now c.in_err-count.field-0.0 c.requires.here c.in_err-count.ensures.err)

pub returns-clause-err : goal.returns-clause-err
returns-clause-err c =
    same_halt c.small_numbers_at.result c.small_numbers_at.ensures.err (λ left. stops_behind_count smalls c.args.least c.args.most c.in_ok-count.count c.args.line.now c.in_ok-count.rest.now left (omega arith) c.in_ok-count.ensures.ok)
