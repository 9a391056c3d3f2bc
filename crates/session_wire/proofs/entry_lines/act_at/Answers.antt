use Rattle.std.proofs.Common.{refl}
use Rattle.session_wire.proofs.Stops.{not_true}
use Rattle.session_wire.proofs.Halts.{handed_halt}
use Rattle.session_wire.proofs.ActTexts.{no_act, act_at_request, act_from, leave_act}
use Rattle.session_wire.proofs.entry_lines.act_at.Goals as goal

pub returns-in_default-clause-err : goal.returns-in_default-clause-err
returns-in_default-clause-err c = no_act c.args.line.now c.in_default.ensures.none

pub returns-then-is_word-clause-ok : goal.returns-then-is_word-clause-ok
returns-then-is_word-clause-ok c =
    let word = c.in-Some.ensures.some in
    leave_act c.args.line.now c.in-Some.word.now c.in-Some.rest.now word.1 word.2 (c.if-is_word.ensures.0 refl)

pub returns-in_err-request-clause-err : goal.returns-in_err-request-clause-err
returns-in_err-request-clause-err c =
    let word = c.in-Some.ensures.some in
    handed_halt _ c.in_err-request.field-0.0 c.from_residual.ensures.1 c.in_err-request.ensures.err (λ left. act_at_request c.args.line.now c.in-Some.word.now c.in-Some.rest.now left word.0 word.1 word.2 (λ e. not_true (c.if-is_word.ensures.1 e)))

pub returns-clause-ok : goal.returns-clause-ok
returns-clause-ok c =
    let word = c.in-Some.ensures.some in
    act_from c.args.line.now c.in-Some.word.now c.in-Some.rest.now c.in_ok-request.request c.in_ok-request.following.now word.2 c.in_ok-request.ensures.ok
