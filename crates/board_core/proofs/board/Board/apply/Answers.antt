use Rattle.board_core.proofs.Growing.{on_ok, next_board, grown_same}
use Rattle.board_core.proofs.board.Board.apply.Goals as goal

pub returns-clause-step : goal.returns-clause-step
returns-clause-step c = on_ok c.take.result _ _ (λ ok p journal k at_k same. next_board p journal k c.args.entry.now c.args.self.now c.take.new.self at_k ok same) c.take.ensures.ok

pub returns-clause-fits : goal.returns-clause-fits
returns-clause-fits c = on_ok c.take.result _ _ (λ ok p is fit. grown_same p c.args.self.now c.take.new.self c.args.entry.now.client c.args.entry.now.act ok is fit) c.take.ensures.ok
