use Rattle.session_wire.proofs.NumberTexts.{no_coordinate, bad_coordinate}
use Rattle.session_wire.proofs.points.coordinate_at.Goals as goal

pub returns-in_default-clause-err : goal.returns-in_default-clause-err
returns-in_default-clause-err c = no_coordinate c.args.line.now c.in_default.ensures.none

pub returns-in-None-clause-err : goal.returns-in-None-clause-err
returns-in-None-clause-err c =
    let word = c.in-Some.ensures.some in
    bad_coordinate c.args.line.now c.in-Some.word.now c.in-Some.rest.now word.0 word.1 word.2 c.in-None.ensures.none
