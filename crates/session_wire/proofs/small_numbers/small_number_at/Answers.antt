use Rattle.session_wire.proofs.Halts.{err_is}
use Rattle.session_wire.proofs.NumberTexts.{small_stops}
use Rattle.session_wire.proofs.small_numbers.small_number_at.Goals as goal

pub returns-in_err-number-clause-err : goal.returns-in_err-number-clause-err
returns-in_err-number-clause-err c = err_is _ c.in_err-number.field-0.0 _ c.from_residual.ensures.1 (small_stops c.args.line.now c.in_err-number.field-0.0 c.requires c.in_err-number.ensures.err)
