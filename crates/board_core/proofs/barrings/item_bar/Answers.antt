use Rattle.board_items.specs.Adds.{item_seen}
use Rattle.board_core.proofs.Barring.{item_least}
use Rattle.board_core.proofs.barrings.item_bar.Goals as goal

pub returns-clause-least : goal.returns-clause-least
returns-clause-least g c =
    item_least c.args.design.now.parts c.args.board.now c.args.client (item_seen c.args.item) c.fences-fences.result.now.fences c.stacks.result.now c.least_foreign.result c.fences-fences.ensures.fences c.stacks.ensures
    (λ n f h. (c.last.ensures.within n f h).0) c.least_foreign.ensures.least
