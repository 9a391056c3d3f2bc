use Rattle.session_wire.proofs.Lengths.{step_short}
use Rattle.session_wire.proofs.script_lines.a_step_is_short.Goals as goal

pub returns : goal.returns
returns c = step_short
