use Rattle.session_wire.proofs.Halts.{handed_count}
use Rattle.session_wire.proofs.StepTexts.{leave_at_client, leave_at_end, leave_from}
use Rattle.session_wire.proofs.script_lines.leave_at.Goals as goal

pub returns-in_err-client-clause-err : goal.returns-in_err-client-clause-err
returns-in_err-client-clause-err c = handed_count _ c.in_err-client.field-0.0 c.from_residual.ensures.1 (leave_at_client c.args.line.now c.in_err-client.field-0.0 c.requires c.in_err-client.ensures.err)

pub returns-in_err-end_at-clause-err : goal.returns-in_err-end_at-clause-err
returns-in_err-end_at-clause-err c =
    handed_count _ c.in_err-end_at.field-0.0 c.from_residual-in_err-end_at.ensures.1 (leave_at_end c.args.line.now c.in_ok-client.client c.in_ok-client.rest.now c.in_err-end_at.field-0.0 c.requires c.in_ok-client.ensures.ok c.in_err-end_at.ensures.err)

pub returns-clause-ok : goal.returns-clause-ok
returns-clause-ok c = leave_from c.args.line.now c.in_ok-client.client c.in_ok-client.rest.now c.in_ok-client.ensures.ok c.in_ok-end_at.ensures.ok
