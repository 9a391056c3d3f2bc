use Rattle.answer_lines.proofs.NumberForms.{numbered_some}
use Rattle.answer_lines.proofs.numbers.is_numbered.Goals as goal

pub returns-in-Some : goal.returns-in-Some
returns-in-Some c = numbered_some c.args.text.now c.args.word.now c.in-Some.rest.now c.args.most c.is_number.result c.in-Some.ensures c.is_number.ensures
