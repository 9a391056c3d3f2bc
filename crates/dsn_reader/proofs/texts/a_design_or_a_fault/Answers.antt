use Rattle.dsn_reader.proofs.Laws.{states_or_fails}
use Rattle.dsn_reader.proofs.texts.a_design_or_a_fault.Goals as goal

pub returns : goal.returns
returns c = states_or_fails
