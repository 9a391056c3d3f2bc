use Rattle.std.proofs.Common.{List, ℕ, subst, sym}
use Rattle.session_loop.specs.declared.turn.Then.TheVariants.{On}
use Rattle.session_loop.specs.Transcripts.{Bad}
use Rattle.session_loop.specs.Turns.{IsTurn}
use Rattle.session_loop.proofs.Answering.{bad_turn}
use Rattle.session_loop.proofs.line.line_turn.Goals as goal

pub returns-in_ok-bad_text-in-Err-Bad-clause-turn : goal.returns-in_ok-bad_text-in-Err-Bad-clause-turn
returns-in_ok-bad_text-in-Err-Bad-clause-turn g c = λ k ahead.
    let place = c.in-Err-Bad.at in
    let h = (g.K.Desk.told c.args.desk.now).handed in
    let given = (g.K.Desk.told c.args.desk.now).answers in
    (Bad place, rw c.in-Err-Bad.field-0-is at c.in-Err-Bad.ensures.fault, subst (λ (text : List ℕ). IsTurn (Bad place) k h given given c.args.ahead.now (record { text = text; goes = On })) (sym c.in_ok-bad_text-in-Err-Bad.ensures) (bad_turn place k h given c.args.ahead.now ahead))
