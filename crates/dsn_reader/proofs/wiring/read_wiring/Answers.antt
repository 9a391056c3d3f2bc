use Rattle.dsn_reader.proofs.Whole.{is_found, is_fault, is_only, is_first}
use Rattle.dsn_reader.proofs.wiring.read_wiring.Goals as goal

pub returns-clause-found : goal.returns-clause-found
returns-clause-found c = is_found _ _ _ _ _ _ c.section.result c.requires.nets c.section.ensures.read

pub returns-clause-only : goal.returns-clause-only
returns-clause-only c = is_only _ _ _ _ _ _ c.section.result c.section.ensures.read

pub returns-clause-fault : goal.returns-clause-fault
returns-clause-fault c = is_fault _ _ _ _ _ _ c.section.result c.requires.nets c.section.ensures.read

pub returns-clause-first : goal.returns-clause-first
returns-clause-first c = is_first _ _ _ _ _ _ c.section.result c.section.ensures.read
