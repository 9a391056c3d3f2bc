use Rattle.session_wire.proofs.StepTexts.{no_reading}
use Rattle.session_wire.proofs.script_lines.a_step_is_not_bad.Goals as goal

pub returns : goal.returns
returns c = λ line step at reads bad. no_reading line at bad step reads
