use Rattle.std.proofs.Common.{sym}
use Rattle.sexp_text.specs.NumberTexts.{unsigned_spelling, power_bytes}
use Rattle.sexp_text.proofs.DigitLists.{mantissa_bare}
use Rattle.sexp_text.proofs.number.read_number.Goals as goal

pub returns-clause-all : goal.returns-clause-all
returns-clause-all c = λ n fine e.
    let o = c.split_sign-sign.ensures.only n.sign (unsigned_spelling n) (mantissa_bare n.whole n.fraction (power_bytes n.power) fine.mantissa) e in
    c.read_unsigned.ensures.all n fine (sym o.0) o.1
