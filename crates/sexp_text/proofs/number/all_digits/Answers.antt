use Rattle.sexp_text.proofs.DigitLists.{digits_of_each, each_of_digits}
use Rattle.sexp_text.proofs.number.all_digits.Goals as goal

pub returns : goal.returns
returns c = ((λ t. digits_of_each c.args.text.now (c.in_digits_range.ensures.0 t)), (λ d. c.in_digits_range.ensures.1 (each_of_digits c.args.text.now d)))
