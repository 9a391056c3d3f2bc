use Rattle.script_replay.proofs.Steps.{one_bad}
use Rattle.script_replay.proofs.laws.one_bad_line.Goals as goal

pub returns : goal.returns
returns c = one_bad
