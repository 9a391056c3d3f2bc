use Rattle.script_replay.proofs.Steps.{not_bad}
use Rattle.script_replay.proofs.laws.a_script_is_not_bad.Goals as goal

pub returns : goal.returns
returns c = not_bad
