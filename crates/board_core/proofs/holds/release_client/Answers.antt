use Rattle.board_core.proofs.Released.{left_fewer}
use Rattle.board_core.proofs.holds.release_client.Goals as goal

pub returns-clause-fewer : goal.returns-clause-fewer
returns-clause-fewer c = left_fewer c.args.client c.args.held.now.pairs _ c.drop_client.ensures.pairs
