use Rattle.std.proofs.Common.{◌+◌, ap, arith}
use Rattle.std.specs.Prelude.{Some, None}
use Rattle.board_items.specs.Adds.{item_of_add}
use Rattle.board_rules.specs.FitAdds.{IsFitAdd}
use Rattle.board_rules.proofs.Walked.{all_left, left_is}
use Rattle.number_slots.specs.Slots.{without}
use Rattle.board_core.specs.Costs.{clashes_most}
use Rattle.board_core.proofs.Near.{clash_here, clash_on, near_of_board}
use Rattle.board_core.proofs.clashes.clash_why.Goals as goal

pub returns-in-Some-clause-reason : goal.returns-in-Some-clause-reason
returns-in-Some-clause-reason g c =
    let p = c.args.design.now.parts in
    let b = c.args.board.now in
    let told = rw c.in_ok-item.ensures.some at c.in-Some.ensures.least in
    let near = near_of_board p b c.args.deletes.now (item_of_add c.index-adds-i.result) _ _ (Some c.in-Some.id) c.rules_view-rules.ensures.rules c.live_items-items.ensures.all told in
    c.loop-i.invariant.same _ (clash_here p b.rules b.live c.args.deletes.now (c.loop-i.i + 1) c.loop-i.i c.in-Some.id c.args.adds.now c.index-adds-i.result c.loop-i-test.true c.index-adds-i.is near)

pub loop-i-preserved : goal.loop-i-preserved
loop-i-preserved g c =
    let p = c.args.design.now.parts in
    let b = c.args.board.now in
    let adds = c.args.adds.now in
    let i = c.loop-i.i in
    let add = c.index-adds-i.result in
    let deletes = c.args.deletes.now in
    let told = rw c.in_ok-item.ensures.some at c.in_default.ensures.least in
    let near = near_of_board p b deletes (item_of_add add) _ _ None c.rules_view-rules.ensures.rules c.live_items-items.ensures.all told in
    let taken = rw (c.live_items-items.ensures.all, c.in_ok-item.ensures.some) at c.least_near.ensures.cost in
    let cut = ap (clashes_most p (without deletes b.live)) (left_is adds i add c.loop-i-test.true c.index-adds-i.is) in record {
      fit = all_left (IsFitAdd p) adds i add c.loop-i-test.true c.index-adds-i.is c.loop-i.invariant.fit;
      same = λ w more. c.loop-i.invariant.same w (clash_on p b.rules b.live deletes (i + 1) i adds add w c.loop-i-test.true c.index-adds-i.is near more);
      cost = omega (arith, taken, cut, c.loop-i.invariant.cost);
    }
