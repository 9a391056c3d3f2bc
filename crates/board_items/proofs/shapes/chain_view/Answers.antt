use Rattle.board_items.proofs.Places.{chain_is}
use Rattle.board_items.proofs.shapes.chain_view.Goals as goal

pub returns : goal.returns
returns c = chain_is c.args.layer c.args.width c.args.points.now
