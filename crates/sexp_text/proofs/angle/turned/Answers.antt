use Rattle.sexp_text.proofs.AngleReadings.{turn_back, turn_on}
use Rattle.sexp_text.proofs.angle.turned.Goals as goal

pub returns-in-Minus-clause-turn : goal.returns-in-Minus-clause-turn
returns-in-Minus-clause-turn c = turn_back c.args.sign c.args.count c.in-Minus.is

pub returns-in_default-clause-turn : goal.returns-in_default-clause-turn
returns-in_default-clause-turn c = turn_on c.args.sign c.args.count c.in_default.not-Minus
