use Rattle.dsn_shapes.proofs.Clauses.{if_found, if_fault, as_read}
use Rattle.dsn_shapes.proofs.ShapeListLaws.{shapes_found, shapes_again, shapes_fault, shapes_fault_again}
use Rattle.dsn_shapes.proofs.drawn.add_shapes.Goals as goal

pub returns-clause-found : goal.returns-clause-found
returns-clause-found c = if_found _ _ _ _ c.shape_list.ensures (λ y e. shapes_found _ _ _ _ _ y e)

pub returns-clause-only : goal.returns-clause-only
returns-clause-only c = λ ss h. as_read _ _ _ _ c.shape_list.ensures (shapes_again _ _ _ _ _ ss h)

pub returns-clause-fault : goal.returns-clause-fault
returns-clause-fault c = if_fault _ _ _ _ c.shape_list.ensures (λ e h. shapes_fault _ _ _ _ _ e h)

pub returns-clause-first : goal.returns-clause-first
returns-clause-first c = λ e h. as_read _ _ _ _ c.shape_list.ensures (shapes_fault_again _ _ _ _ _ e h)
