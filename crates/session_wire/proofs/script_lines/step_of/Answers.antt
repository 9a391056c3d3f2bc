use Rattle.std.proofs.Common.{refl}
use Rattle.std.specs.Prelude.{codes}
use Rattle.session_wire.proofs.Stops.{not_true}
use Rattle.session_wire.proofs.StepTexts.{bad_step, stops_in_step, stopped}
use Rattle.session_wire.proofs.script_lines.step_of.Goals as goal

pub returns-then-is_word-clause-err : goal.returns-then-is_word-clause-err
returns-then-is_word-clause-err c =
    stopped c.do_at.result c.do_at.ensures.err (λ left. stops_in_step (codes "do") c.args.line.now c.split_word.result.0.now c.split_word.result.1.now left c.split_word.ensures.parts (c.if-is_word.ensures.0 refl))

pub returns-then-is_word-2-clause-err : goal.returns-then-is_word-2-clause-err
returns-then-is_word-2-clause-err c =
    stopped c.leave_at.result c.leave_at.ensures.err (λ left. stops_in_step (codes "leave") c.args.line.now c.split_word.result.0.now c.split_word.result.1.now left c.split_word.ensures.parts (c.if-is_word-2.ensures.0 refl))

pub returns-clause-err : goal.returns-clause-err
returns-clause-err c =
    bad_step c.args.line.now c.split_word.result.0.now c.split_word.result.1.now c.split_word.ensures.parts c.split_word.ensures.word c.split_word.ensures.ends (λ e. not_true (c.if-is_word.ensures.1 e)) (λ e. not_true (c.if-is_word-2.ensures.1 e))
