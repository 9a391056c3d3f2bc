use Rattle.session_wire.proofs.StepTexts.{only_step, only_place}
use Rattle.session_wire.proofs.script_lines.decode_script_line.Goals as goal

pub returns-clause-only : goal.returns-clause-only
returns-clause-only c = only_step c.args.line.now c.decode_step.result c.decode_step.ensures.ok c.decode_step.ensures.err

pub returns-clause-first : goal.returns-clause-first
returns-clause-first c = only_place c.args.line.now c.decode_step.result c.decode_step.ensures.ok c.decode_step.ensures.err
