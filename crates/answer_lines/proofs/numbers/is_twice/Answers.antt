use Rattle.answer_lines.proofs.NumberForms.{twice_some}
use Rattle.answer_lines.proofs.numbers.is_twice.Goals as goal

pub returns-in-Some : goal.returns-in-Some
returns-in-Some c = twice_some c.args.text.now c.args.word.now c.in-Some.rest.now c.args.most c.are_numbers.result c.in-Some.ensures c.are_numbers.ensures
