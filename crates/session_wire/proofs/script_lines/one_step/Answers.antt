use Rattle.session_wire.proofs.StepTexts.{one_step}
use Rattle.session_wire.proofs.script_lines.one_step.Goals as goal

pub returns : goal.returns
returns c = one_step
