use Rattle.std.proofs.Common.{arith}
use Rattle.board_core.specs.Costs.{touch_most}
use Rattle.number_slots.proofs.Sums.{sum_at}
use Rattle.board_core.proofs.Barring.{delete_least}
use Rattle.board_core.proofs.Near.{fit_at}
use Rattle.board_core.proofs.barrings.delete_bar.Goals as goal

pub item_bar-requires : goal.item_bar-requires
item_bar-requires g c = record { item_fits = rw c.view.ensures (fit_at c.args.design.now.parts c.args.board.now.live c.args.id c.in_ok-item.item.now c.requires.board.fit c.in_ok-item.ensures.some) }

pub returns-clause-least : goal.returns-clause-least
returns-clause-least g c =
    delete_least c.args.design.now.parts c.args.board.now c.args.client c.args.id c.in_ok-item.item.now c.item_bar.result c.in_ok-item.ensures.some c.in_ok-item.ensures.only (rw c.view.ensures at c.item_bar.ensures.least)

pub returns-clause-cost : goal.returns-clause-cost
returns-clause-cost g c =
    let taken = rw c.view.ensures at c.item_bar.ensures.cost in
    let most = sum_at (touch_most c.args.design.now.parts c.args.board.now.fences) c.args.id c.args.board.now.live c.in_ok-item.item.now c.in_ok-item.ensures.some in omega (arith, taken, most)
