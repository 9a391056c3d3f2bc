use Rattle.sexp_text.proofs.Roundings.{size_above}
use Rattle.sexp_text.proofs.rounding.size_of.Goals as goal

pub returns-then-decimal-clause-above : goal.returns-then-decimal-clause-above
returns-then-decimal-clause-above c = size_above c.shifted_up.result c.args.decimal c.args.per_unit c.if-decimal.true (rw c.from.ensures at c.shifted_up.ensures.above)
