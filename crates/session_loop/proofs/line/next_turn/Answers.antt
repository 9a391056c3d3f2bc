use Rattle.std.proofs.Common.{subst, sym, inr, refl}
use Rattle.session_loop.specs.declared.turn.Turn.{Turn}
use Rattle.session_loop.specs.Transcripts.{Long}
use Rattle.session_loop.specs.Turns.{IsTurn}
use Rattle.session_loop.proofs.Answering.{overlong_turn}
use Rattle.session_loop.proofs.line.next_turn.Goals as goal

pub returns-in_ok-long_turn-in-TooLong-clause-turn : goal.returns-in_ok-long_turn-in-TooLong-clause-turn
returns-in_ok-long_turn-in-TooLong-clause-turn g c = λ k ahead.
    let h = (g.K.Desk.told c.args.desk.now).handed in
    let given = (g.K.Desk.told c.args.desk.now).answers in
    record {
      r = Long;
      turn_of = subst (λ (turn : Turn). IsTurn Long k h given given c.args.ahead.now turn) (sym c.in_ok-long_turn-in-TooLong.ensures) (overlong_turn k h given c.args.ahead.now ahead);
      front = inr (refl, c.in-TooLong.ensures.0, c.in-TooLong.ensures.1);
    }
