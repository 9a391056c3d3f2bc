use Rattle.script_replay.proofs.Steps.{one_script}
use Rattle.script_replay.proofs.laws.one_script.Goals as goal

pub returns : goal.returns
returns c = one_script
