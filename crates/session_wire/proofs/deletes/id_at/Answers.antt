use Rattle.session_wire.proofs.Halts.{same_count}
use Rattle.session_wire.proofs.NumberTexts.{id_stops}
use Rattle.session_wire.proofs.deletes.id_at.Goals as goal

pub returns-clause-err : goal.returns-clause-err
returns-clause-err c = same_count c.number_at.result c.number_at.ensures.err (λ left. id_stops c.args.line.now left c.requires)
