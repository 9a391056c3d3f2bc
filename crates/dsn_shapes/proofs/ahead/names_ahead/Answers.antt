use Rattle.dsn_shapes.proofs.Clauses.{names_if_read}
use Rattle.dsn_shapes.proofs.ahead.names_ahead.Goals as goal

pub returns-clause-each : goal.returns-clause-each
returns-clause-each c = names_if_read _ _ c.collected.result c.collected.ensures
