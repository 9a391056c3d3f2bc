use Rattle.dsn_turns.specs.Wides.{point_of}
use Rattle.dsn_turns.proofs.MoveLaws.{carried_of}
use Rattle.dsn_turns.proofs.moves.carried.Goals as goal

pub returns-clause-led : goal.returns-clause-led
returns-clause-led c = carried_of c.args.step c.args.p (point_of c.turned.result) (point_of c.wide_sum.result) c.turned.ensures.point c.wide_sum.ensures
