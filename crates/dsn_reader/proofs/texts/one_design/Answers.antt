use Rattle.dsn_reader.proofs.Laws.{one_design}
use Rattle.dsn_reader.proofs.texts.one_design.Goals as goal

pub returns : goal.returns
returns c = one_design
