use Rattle.session_wire.proofs.Halts.{handed_count}
use Rattle.session_wire.proofs.MessageTexts.{bye_at_end, bye_from}
use Rattle.session_wire.proofs.message_lines.bye_at.Goals as goal

pub returns-in_err-end_at-clause-err : goal.returns-in_err-end_at-clause-err
returns-in_err-end_at-clause-err c = handed_count _ c.in_err-end_at.field-0.0 c.from_residual.ensures.1 (bye_at_end c.args.line.now c.in_err-end_at.field-0.0 c.requires c.in_err-end_at.ensures.err)

pub returns-clause-ok : goal.returns-clause-ok
returns-clause-ok c = bye_from c.args.line.now c.in_ok-end_at.ensures.ok
