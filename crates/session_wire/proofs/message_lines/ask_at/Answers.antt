use Rattle.session_wire.proofs.ReadingLaws.{handed_left, handed_stop}
use Rattle.session_wire.proofs.MessageTexts.{ask_at_request, ask_at_end, ask_from}
use Rattle.session_wire.proofs.message_lines.ask_at.Goals as goal

pub returns-in_err-request-clause-err : goal.returns-in_err-request-clause-err
returns-in_err-request-clause-err c =
    handed_stop _ c.in_err-request.field-0.0 c.from_residual.ensures.1 c.in_err-request.ensures.err (λ left. ask_at_request c.args.word.now c.args.rest.now left c.requires.word c.requires.ends c.requires.no_bye)

pub returns-in_err-end_at-clause-err : goal.returns-in_err-end_at-clause-err
returns-in_err-end_at-clause-err c =
    handed_left _ c.in_err-end_at.field-0.0 c.from_residual-in_err-end_at.ensures.1 (ask_at_end c.args.word.now c.args.rest.now c.in_ok-request.request c.in_ok-request.following.now c.in_err-end_at.field-0.0 c.requires.word c.requires.ends c.requires.no_bye c.in_ok-request.ensures.ok c.in_err-end_at.ensures.err)

pub returns-clause-ok : goal.returns-clause-ok
returns-clause-ok c = ask_from c.args.word.now c.args.rest.now c.in_ok-request.request c.in_ok-request.following.now c.in_ok-request.ensures.ok c.in_ok-end_at.ensures.ok
