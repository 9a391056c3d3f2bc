use Rattle.script_replay.proofs.Unique.{one_run}
use Rattle.script_replay.proofs.laws.one_run.Goals as goal

pub returns : goal.returns
returns c = one_run
