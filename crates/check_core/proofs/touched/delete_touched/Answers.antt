use Rattle.std.proofs.Common.{arith, subst}
use Rattle.board_items.specs.declared.items.Item.{Item}
use Rattle.board_items.specs.Shapes.{copper_of_item}
use Rattle.boundaries.specs.Touching.{IsTouched}
use Rattle.board_core.specs.Costs.{touch_most}
use Rattle.number_slots.proofs.Sums.{sum_at}
use Rattle.board_core.proofs.Near.{fit_at}
use Rattle.check_core.specs.Tries.{IsMetByDelete}
use Rattle.check_core.proofs.Growth.{grows_same_if}
use Rattle.check_core.proofs.touched.delete_touched.Goals as goal

pub item_touched-requires : goal.item_touched-requires
item_touched-requires g c = rw c.view.ensures (fit_at c.args.design.now.parts c.args.board.now.live c.args.id c.in-Some.item.now c.requires.fit c.in-Some.ensures.some)

pub returns-clause-found : goal.returns-clause-found
returns-clause-found g c =
    let p = c.args.design.now.parts in
    let b = c.args.board.now in
    let x = c.in-Some.item.now in
    grows_same_if (IsTouched b.fences (copper_of_item p.stacks x)) (IsMetByDelete p b c.args.id) c.item_touched.result c.args.found.now c.item_touched.new.found
    (λ n h. record { item = x; item_is = c.in-Some.ensures.some; touched = h })
    (λ n m. subst (λ (y : Item). IsTouched b.fences (copper_of_item p.stacks y) n) (c.in-Some.ensures.only m.item m.item_is) m.touched)
    (rw c.view.ensures at c.item_touched.ensures.found)

pub returns-clause-cost : goal.returns-clause-cost
returns-clause-cost g c =
    let taken = rw c.view.ensures at c.item_touched.ensures.cost in
    let most = sum_at (touch_most c.args.design.now.parts c.args.board.now.fences) c.args.id c.args.board.now.live c.in-Some.item.now c.in-Some.ensures.some in omega (arith, taken, most)
