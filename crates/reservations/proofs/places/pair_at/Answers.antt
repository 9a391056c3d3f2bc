use Rattle.std.proofs.Common.{rules}
use Rattle.reservations.proofs.SoFar.{read_pair, past_pair}
use Rattle.reservations.proofs.places.pair_at.Goals as goal

pub returns-in_err-get : goal.returns-in_err-get
returns-in_err-get c = rw c.from_residual.ensures (past_pair c.args.places.now c.args.place (search rules))

pub returns : goal.returns
returns c = read_pair c.args.places.now c.args.place c.in_ok-get.field-0.now c.in_ok-get.field-0.now (search rules) (search rules)
