use Rattle.board_core.proofs.Growing.{slots_told}
use Rattle.board_core.proofs.made.slot_of.Goals as goal

pub returns : goal.returns
returns c = slots_told c.args.add.now c.item_of_add.result c.item_of_add.ensures.some c.item_of_add.ensures.within c.item_of_add.ensures.none
