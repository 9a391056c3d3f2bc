use Rattle.dsn_reader.proofs.Laws.{one_fault}
use Rattle.dsn_reader.proofs.texts.one_first_fault.Goals as goal

pub returns : goal.returns
returns c = one_fault
