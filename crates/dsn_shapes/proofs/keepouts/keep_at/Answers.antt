use Rattle.dsn_shapes.proofs.Clauses.{if_found, if_fault, as_read}
use Rattle.dsn_shapes.proofs.KeepLaws.{keep_found, keep_again, keep_fault, keep_fault_again}
use Rattle.dsn_shapes.proofs.keepouts.keep_at.Goals as goal

pub returns-clause-found : goal.returns-clause-found
returns-clause-found c = if_found _ _ _ _ c.keepout.ensures (λ y e. keep_found _ _ _ _ y e)

pub returns-clause-only : goal.returns-clause-only
returns-clause-only c = λ ss h. as_read _ _ _ _ c.keepout.ensures (keep_again _ _ _ _ ss h)

pub returns-clause-fault : goal.returns-clause-fault
returns-clause-fault c = if_fault _ _ _ _ c.keepout.ensures (λ e h. keep_fault _ _ _ _ e h)

pub returns-clause-first : goal.returns-clause-first
returns-clause-first c = λ e h. as_read _ _ _ _ c.keepout.ensures (keep_fault_again _ _ _ _ e h)
