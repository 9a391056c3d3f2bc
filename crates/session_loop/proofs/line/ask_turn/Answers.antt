use Rattle.session_loop.proofs.Answering.{asked_turn}
use Rattle.session_loop.proofs.line.ask_turn.Goals as goal

pub returns-clause-turn : goal.returns-clause-turn
returns-clause-turn g c = λ k ahead. asked_turn c.args.request k (g.K.Desk.told c.answer.new.desk).handed (g.K.Desk.told c.args.desk.now).answers (g.K.Desk.told c.answer.new.desk).answers c.answer.new.ahead c.in_ok-reply.reply c.in_ok-reply.text c.then_of.result (c.in_ok-reply.ensures.answered k ahead) c.then_of.ensures
