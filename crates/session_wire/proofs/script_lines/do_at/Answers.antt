use Rattle.session_wire.proofs.Halts.{handed_count, handed_halt}
use Rattle.session_wire.proofs.StepTexts.{do_at_client, do_at_request, do_at_end, do_from}
use Rattle.session_wire.proofs.script_lines.do_at.Goals as goal

pub returns-in_err-client-clause-err : goal.returns-in_err-client-clause-err
returns-in_err-client-clause-err c = handed_count _ c.in_err-client.field-0.0 c.from_residual.ensures.1 (do_at_client c.args.line.now c.in_err-client.field-0.0 c.requires c.in_err-client.ensures.err)

pub returns-in_err-request-clause-err : goal.returns-in_err-request-clause-err
returns-in_err-request-clause-err c =
    handed_halt _ c.in_err-request.field-0.0 c.from_residual-in_err-request.ensures.1 c.in_err-request.ensures.err (λ left. do_at_request c.args.line.now c.in_ok-client.client c.in_ok-client.from_request.now left c.requires c.in_ok-client.ensures.ok)

pub returns-in_err-end_at-clause-err : goal.returns-in_err-end_at-clause-err
returns-in_err-end_at-clause-err c =
    handed_count _ c.in_err-end_at.field-0.0 c.from_residual-in_err-end_at.ensures.1 (do_at_end c.args.line.now c.in_ok-client.client c.in_ok-request.request c.in_ok-client.from_request.now c.in_ok-request.rest.now c.in_err-end_at.field-0.0 c.requires c.in_ok-client.ensures.ok c.in_ok-request.ensures.ok c.in_err-end_at.ensures.err)

pub returns-clause-ok : goal.returns-clause-ok
returns-clause-ok c =
    do_from c.args.line.now c.in_ok-client.client c.in_ok-request.request c.in_ok-client.from_request.now c.in_ok-request.rest.now c.in_ok-client.ensures.ok c.in_ok-request.ensures.ok c.in_ok-end_at.ensures.ok
