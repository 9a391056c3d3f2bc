use Rattle.std.proofs.Common.{arith}
use Rattle.board_rules.specs.Costs.{pair_most}
use Rattle.board_items.specs.Adds.{item_seen}
use Rattle.board_core.proofs.Near.{fit_at}
use Rattle.number_slots.proofs.Sums.{sum_at}
use Rattle.check_core.proofs.near_live.is_near_live.Goals as goal

pub pair_keeps-requires-clause-b_fits : goal.pair_keeps-requires-clause-b_fits
pair_keeps-requires-clause-b_fits g c = rw c.view.ensures (fit_at c.args.design.now.parts c.args.board.now.live c.args.id c.in-Some.other.now c.requires.board.fit c.in-Some.ensures.some)

pub returns-in-Some-clause-cost : goal.returns-in-Some-clause-cost
returns-in-Some-clause-cost g c =
    let taken = rw c.view.ensures at c.pair_keeps.ensures.cost in
    let most = sum_at (pair_most c.args.design.now.parts (item_seen c.args.item)) c.args.id c.args.board.now.live c.in-Some.other.now c.in-Some.ensures.some in omega (arith, taken, most)
