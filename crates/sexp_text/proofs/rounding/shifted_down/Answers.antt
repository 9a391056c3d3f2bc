use Rattle.std.proofs.Common.{arith}
use Rattle.sexp_text.proofs.Roundings.{nearest_quotient, nearest_zero}
use Rattle.sexp_text.proofs.rounding.shifted_down.Goals as goal

pub returns-then-places-ge38 : goal.returns-then-places-ge38
returns-then-places-ge38 c = nearest_zero c.args.number c.args.places (omega arith) (omega arith)

pub returns : goal.returns
returns c = rw (← c.power_of_ten-one.ensures.value) (nearest_quotient c.args.number c.power_of_ten-one.result c.power_of_ten-one.ensures.some)
