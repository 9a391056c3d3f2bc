use Rattle.script_replay.proofs.Steps.{not_neither}
use Rattle.script_replay.proofs.laws.a_text_is_a_script_or_bad.Goals as goal

pub returns : goal.returns
returns c = not_neither
