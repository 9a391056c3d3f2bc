use Rattle.session_wire.proofs.NumberTexts.{negative_none}
use Rattle.session_wire.proofs.points.negative_of.Goals as goal

pub returns-in_err-size-clause-none : goal.returns-in_err-size-clause-none
returns-in_err-size-clause-none c = rw c.from_residual.ensures (negative_none c.args.digits.now c.in_err-size.ensures.none)
