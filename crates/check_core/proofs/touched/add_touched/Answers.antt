use Rattle.board_items.specs.Adds.{item_of_add}
use Rattle.board_items.specs.Shapes.{copper_of_item}
use Rattle.boundaries.specs.Touching.{IsTouched}
use Rattle.check_core.specs.Tries.{IsMetByAdd}
use Rattle.check_core.proofs.Adding.{right_fits}
use Rattle.check_core.proofs.Growth.{grows_same_if}
use Rattle.check_core.proofs.touched.add_touched.Goals as goal

pub item_touched-requires : goal.item_touched-requires
item_touched-requires g c = rw c.item_made.ensures (right_fits c.args.design.now.parts c.args.add.now c.args.design.now.sound c.requires.formed (c.requires.right.0 cc)).item

pub returns-clause-found : goal.returns-clause-found
returns-clause-found g c =
    let p = c.args.design.now.parts in
    let b = c.args.board.now in
    grows_same_if (IsTouched b.fences (copper_of_item p.stacks (item_of_add c.args.add.now))) (IsMetByAdd p b c.args.add.now) c.item_touched.result c.args.found.now c.item_touched.new.found
    (λ n h. record { right = c.requires.right.0 cc; touched = h })
    (λ n m. m.touched)
    (rw c.item_made.ensures at c.item_touched.ensures.found)
