use Rattle.session_loop.proofs.Feeds.{gathered}
use Rattle.session_loop.proofs.request.answer.Goals as goal

pub returns-clause-answered : goal.returns-clause-answered
returns-clause-answered g c = λ k ahead.
    let asked = c.in_ok-placed.ensures in
    let late = c.in_ok-text.ensures in
    gathered c.args.request k (g.K.Desk.told c.args.desk.now).handed (g.K.Desk.told c.ask_on.new.desk).handed (g.K.Desk.told c.finish.new.desk).handed (g.K.Desk.told c.args.desk.now).answers (g.K.Desk.told c.ask_on.new.desk).answers (g.K.Desk.told c.finish.new.desk).answers c.args.ahead.now c.ask_on.new.ahead c.finish.new.ahead c.in_ok-placed.placed c.in_ok-text.text ahead asked.early asked.answers late.late late.reaches late.answers
