use Rattle.dsn_reader.proofs.WholeLaws.{behind_fails}
use Rattle.dsn_reader.proofs.reader.behind_library.Goals as goal

pub returns-in-Err-clause-stated : goal.returns-in-Err-clause-stated
returns-in-Err-clause-stated c = behind_fails _ _ _ _ _ _ c.in-Err.why c.in_ok-placement.ensures.read c.in_ok-network.ensures.read c.in-Err.ensures.wired
