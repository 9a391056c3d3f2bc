use Rattle.dsn_shapes.proofs.Clauses.{if_found, if_fault, as_read}
use Rattle.dsn_shapes.proofs.OutlineLaws.{outlines_found, outlines_again, outlines_fault, outlines_fault_again}
use Rattle.dsn_shapes.proofs.outlines.add_outlines.Goals as goal

pub returns-clause-found : goal.returns-clause-found
returns-clause-found c = if_found _ _ _ _ c.boundary.ensures (λ y e. outlines_found _ _ _ _ y e)

pub returns-clause-only : goal.returns-clause-only
returns-clause-only c = λ areas h. as_read _ _ _ _ c.boundary.ensures (outlines_again _ _ _ _ areas h)

pub returns-clause-fault : goal.returns-clause-fault
returns-clause-fault c = if_fault _ _ _ _ c.boundary.ensures (λ e h. outlines_fault _ _ _ _ e h)

pub returns-clause-first : goal.returns-clause-first
returns-clause-first c = λ e h. as_read _ _ _ _ c.boundary.ensures (outlines_fault_again _ _ _ _ e h)
