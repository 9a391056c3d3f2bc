use Rattle.check_core.proofs.Adding.{right_fits}
use Rattle.check_core.proofs.Clashing.{near_add}
use Rattle.check_core.proofs.clashes.add_clashes.Goals as goal

pub clashes_of-requires-clause-item_fits : goal.clashes_of-requires-clause-item_fits
clashes_of-requires-clause-item_fits g c = rw c.item_made.ensures (right_fits c.args.design.now.parts c.args.add.now c.args.design.now.sound c.requires.formed (c.requires.right.0 cc)).item

pub returns-clause-near : goal.returns-clause-near
returns-clause-near g c =
    near_add c.args.design.now.parts c.args.board.now c.args.deletes.now c.args.add.now _ _ c.clashes_of.result (c.requires.right.0 cc) c.rules_of.ensures.rules c.item_made.ensures c.clashes_of.ensures.rising c.clashes_of.ensures.exact
