use Rattle.std.proofs.Common.{arith}
use Rattle.answer_lines.proofs.NumberForms.{numbers_none, numbers_some, numbers_other}
use Rattle.answer_lines.proofs.numbers.are_numbers.Goals as goal

pub returns-in-None : goal.returns-in-None
returns-in-None c = numbers_none c.args.text.now c.args.least c.args.first c.args.second c.in-None.ensures

pub returns-then-is_number : goal.returns-then-is_number
returns-then-is_number c =
    numbers_some c.args.text.now c.in-Some.word.now c.in-Some.rest.now c.args.least c.args.first c.args.second c.is_number-then-is_number.result (omega (arith, c.ranges.first.fits)) c.in-Some.ensures.0 c.in-Some.ensures.1 (c.is_number.ensures.0 c.if-is_number.true) c.is_number-then-is_number.ensures

pub returns-else-is_number : goal.returns-else-is_number
returns-else-is_number c =
    numbers_other c.args.text.now c.in-Some.word.now c.in-Some.rest.now c.args.least c.args.first c.args.second c.is_number.result (omega (arith, c.ranges.first.fits)) c.in-Some.ensures.0 c.in-Some.ensures.1 c.if-is_number.false c.is_number.ensures
