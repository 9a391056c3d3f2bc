use Rattle.board_numbers.proofs.Numbered.{numbered_of}
use Rattle.board_numbers.proofs.numbers.numbers_of.Goals as goal

pub returns-clause-found : goal.returns-clause-found
returns-clause-found c = numbered_of c.args.bytes.now c.in_ok-design.design c.parts.result.now _ c.in-Ok-numbers_text.text c.in_ok-design.ensures.found c.parts.ensures c.in-Ok.ensures c.in-Ok-numbers_text.ensures
