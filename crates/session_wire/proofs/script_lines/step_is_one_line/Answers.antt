use Rattle.session_wire.proofs.LineFeeds.{step_is_one_line}
use Rattle.session_wire.proofs.script_lines.step_is_one_line.Goals as goal

pub returns : goal.returns
returns c = step_is_one_line
