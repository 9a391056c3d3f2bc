use Rattle.dsn_reader.proofs.UnknownLaws.{told_known, told_only, told_fault, told_first}
use Rattle.dsn_reader.proofs.assembly.check_vias.Goals as goal

pub returns-clause-found : goal.returns-clause-found
returns-clause-found c = told_known _ _ _ c.least_fault.result c.least_fault.ensures

pub returns-clause-only : goal.returns-clause-only
returns-clause-only c = told_only _ _ _ c.least_fault.result c.least_fault.ensures

pub returns-clause-fault : goal.returns-clause-fault
returns-clause-fault c = told_fault _ _ _ c.least_fault.result c.least_fault.ensures

pub returns-clause-first : goal.returns-clause-first
returns-clause-first c = told_first _ _ _ c.least_fault.result c.least_fault.ensures
