use Rattle.dsn_reader.proofs.Laws.{no_fault}
use Rattle.dsn_reader.proofs.texts.a_design_has_no_fault.Goals as goal

pub returns : goal.returns
returns c = no_fault
