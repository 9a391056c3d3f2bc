use Rattle.sexp_text.proofs.NumberReadings.{mantissa_whole, mantissa_cut, mantissa_parts}
use Rattle.sexp_text.proofs.number.read_mantissa.Goals as goal

pub returns-in-None-clause-all : goal.returns-in-None-clause-all
returns-in-None-clause-all c = λ whole fraction m e. mantissa_whole c.read_digits.result c.args.text.now whole fraction c.read_digits.ensures.value c.in-None.ensures.found m e

pub returns-in-Some-clause-all : goal.returns-in-Some-clause-all
returns-in-Some-clause-all c = λ whole fraction m e. mantissa_cut c.read_digits-in-Some.result c.args.text.now c.in-Some.whole.now c.in-Some.fraction.now whole fraction c.read_digits-in-Some.ensures.value c.in-Some.ensures.found c.in-Some.ensures.none m e

pub returns-in-Some-clause-some : goal.returns-in-Some-clause-some
returns-in-Some-clause-some c = λ s. mantissa_parts c.read_digits-in-Some.result c.args.text.now c.in-Some.whole.now c.in-Some.fraction.now _ c.read_digits-in-Some.ensures.value s c.in-Some.ensures.parts
