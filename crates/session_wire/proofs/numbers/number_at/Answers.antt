use Rattle.std.proofs.Common.{arith}
use Rattle.session_wire.proofs.NumberTexts.{no_number, bad_number}
use Rattle.session_wire.proofs.numbers.number_at.Goals as goal

pub returns-in_default-clause-err : goal.returns-in_default-clause-err
returns-in_default-clause-err c = no_number c.args.least c.args.most c.args.line.now c.requires.some c.in_default.ensures.none

pub returns-in-None-clause-err : goal.returns-in-None-clause-err
returns-in-None-clause-err c =
    let word = c.in-Some.ensures.some in
    bad_number c.args.least c.args.most c.args.line.now c.in-Some.word.now c.in-Some.rest.now c.requires.some (omega arith) word.0 word.1 word.2 c.in-None.ensures.none
