use Rattle.std.proofs.Common.{refl}
use Rattle.session_wire.proofs.Stops.{not_true}
use Rattle.session_wire.proofs.Halts.{handed_count, same_halt}
use Rattle.session_wire.proofs.AddTexts.{no_add, bad_add, stops_in_wire, stops_in_via}
use Rattle.session_wire.proofs.adds.add_at.Goals as goal

pub returns-in_default-clause-err : goal.returns-in_default-clause-err
returns-in_default-clause-err c = no_add c.args.line.now c.in_default.ensures.none

pub returns-then-is_word-clause-err : goal.returns-then-is_word-clause-err
returns-then-is_word-clause-err c =
    let word = c.in-Some.ensures.some in
    same_halt c.wire_at.result c.wire_at.ensures.err (λ left. stops_in_wire c.args.line.now c.in-Some.word.now c.in-Some.rest.now left word.1 word.2 (c.if-is_word.ensures.0 refl))

pub returns-in_err-via-clause-err : goal.returns-in_err-via-clause-err
returns-in_err-via-clause-err c =
    let word = c.in-Some.ensures.some in
    handed_count _ c.in_err-via.field-0.0 c.from_residual.ensures.1 (stops_in_via c.args.line.now c.in-Some.word.now c.in-Some.rest.now c.in_err-via.field-0.0 word.1 word.2 (c.if-is_word-2.ensures.0 refl) c.in_err-via.ensures.err)

pub returns-clause-err : goal.returns-clause-err
returns-clause-err c =
    let word = c.in-Some.ensures.some in
    bad_add c.args.line.now c.in-Some.word.now c.in-Some.rest.now word.0 word.1 word.2 (λ e. not_true (c.if-is_word.ensures.1 e)) (λ e. not_true (c.if-is_word-2.ensures.1 e))
