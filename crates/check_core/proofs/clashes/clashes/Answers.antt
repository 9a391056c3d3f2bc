use Rattle.check_core.proofs.Clashing.{rise_if, exact_if}
use Rattle.check_core.proofs.clashes.clashes.Goals as goal

pub returns-clause-rising : goal.returns-clause-rising
returns-clause-rising g c = rise_if c.args.design.now.parts c.args.board.now c.args.deletes.now c.args.adds.now c.clashes_by_add.result c.clashes_by_add.ensures.clashes

pub returns-clause-exact : goal.returns-clause-exact
returns-clause-exact g c = exact_if c.args.design.now.parts c.args.board.now c.args.deletes.now c.args.adds.now c.clashes_by_add.result c.clashes_by_add.ensures.clashes
