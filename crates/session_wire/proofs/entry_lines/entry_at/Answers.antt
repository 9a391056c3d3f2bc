use Rattle.session_wire.proofs.Halts.{handed_count, handed_halt}
use Rattle.session_wire.proofs.EntryTexts.{entry_at_number, entry_at_client, entry_at_act, entry_at_end, entry_from}
use Rattle.session_wire.proofs.entry_lines.entry_at.Goals as goal

pub returns-in_err-number-clause-err : goal.returns-in_err-number-clause-err
returns-in_err-number-clause-err c = handed_count _ c.in_err-number.field-0.0 c.from_residual.ensures.1 (entry_at_number c.args.line.now c.in_err-number.field-0.0 c.requires c.in_err-number.ensures.err)

pub returns-in_err-client-clause-err : goal.returns-in_err-client-clause-err
returns-in_err-client-clause-err c =
    handed_count _ c.in_err-client.field-0.0 c.from_residual-in_err-client.ensures.1 (entry_at_client c.args.line.now c.in_ok-number.number c.in_ok-number.from_client.now c.in_err-client.field-0.0 c.requires c.in_ok-number.ensures.ok c.in_err-client.ensures.err)

pub returns-in_err-act-clause-err : goal.returns-in_err-act-clause-err
returns-in_err-act-clause-err c =
    handed_halt _ c.in_err-act.field-0.0 c.from_residual-in_err-act.ensures.1 c.in_err-act.ensures.err (λ left. entry_at_act c.args.line.now c.in_ok-number.number c.in_ok-number.from_client.now c.in_ok-client.client c.in_ok-client.from_act.now left c.requires c.in_ok-number.ensures.ok c.in_ok-client.ensures.ok)

pub returns-in_err-end_at-clause-err : goal.returns-in_err-end_at-clause-err
returns-in_err-end_at-clause-err c =
    handed_count _ c.in_err-end_at.field-0.0 c.from_residual-in_err-end_at.ensures.1 (entry_at_end c.args.line.now c.in_ok-number.number c.in_ok-number.from_client.now c.in_ok-client.client c.in_ok-client.from_act.now c.in_ok-act.act c.in_ok-act.rest.now c.in_err-end_at.field-0.0 c.requires c.in_ok-number.ensures.ok c.in_ok-client.ensures.ok c.in_ok-act.ensures.ok c.in_err-end_at.ensures.err)

pub returns-clause-ok : goal.returns-clause-ok
returns-clause-ok c =
    entry_from c.args.line.now c.in_ok-number.number c.in_ok-number.from_client.now c.in_ok-client.client c.in_ok-client.from_act.now c.in_ok-act.act c.in_ok-act.rest.now c.in_ok-number.ensures.ok c.in_ok-client.ensures.ok c.in_ok-act.ensures.ok c.in_ok-end_at.ensures.ok
