use Rattle.session_wire.proofs.Stops.{stops_at_end}
use Rattle.session_wire.proofs.words.end_at.Goals as goal

pub returns-in-Some-clause-err : goal.returns-in-Some-clause-err
returns-in-Some-clause-err c =
    let word = c.in-Some.ensures.some in
    stops_at_end c.args.line.now c.in-Some.field-0.0.now c.in-Some.field-0.1.now word.0 word.1 word.2
