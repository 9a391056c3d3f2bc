use Rattle.sexp_text.proofs.AngleReadings.{none_far}
use Rattle.sexp_text.proofs.angle.divided.Goals as goal

pub returns-then-places-ge30-clause-none : goal.returns-then-places-ge30-clause-none
returns-then-places-ge30-clause-none c = none_far c.args.number c.args.places c.if-number-eq0.false c.requires c.if-places-ge30.true
