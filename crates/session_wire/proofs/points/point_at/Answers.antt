use Rattle.session_wire.proofs.Halts.{err_is}
use Rattle.session_wire.proofs.PointTexts.{no_x, no_y}
use Rattle.session_wire.proofs.points.point_at.Goals as goal

pub returns-in_err-x-clause-err : goal.returns-in_err-x-clause-err
returns-in_err-x-clause-err c = err_is _ c.in_err-x.field-0.0 _ c.from_residual.ensures.1 (no_x c.args.line.now c.in_err-x.field-0.0 c.requires c.in_err-x.ensures.err)

pub returns-in_err-y-clause-err : goal.returns-in_err-y-clause-err
returns-in_err-y-clause-err c = err_is _ c.in_err-y.field-0.0 _ c.from_residual-in_err-y.ensures.1 (no_y c.args.line.now c.in_ok-x.x c.in_ok-x.from_y.now c.in_err-y.field-0.0 c.in_ok-x.ensures.ok c.in_err-y.ensures.err)
