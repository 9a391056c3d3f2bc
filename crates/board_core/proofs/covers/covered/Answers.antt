use Rattle.std.proofs.Common.{arith, ◌≡◌, true, false}
use Rattle.board_core.specs.Costs.{area_most}
use Rattle.number_slots.proofs.Sums.{sum_at}
use Rattle.board_core.proofs.Covered.{pair_apart}
use Rattle.board_core.proofs.Near.{fit_at}
use Rattle.board_core.proofs.covers.covered.Goals as goal

pub touches_area-requires-clause-item_in : goal.touches_area-requires-clause-item_in
touches_area-requires-clause-item_in g c =
    rw (c.stacks.ensures, c.view.ensures) (fit_at c.args.design.now.parts c.args.board.now.live c.args.pair.0.0 c.in_ok-item.item.now c.requires.board.fit c.in_ok-item.ensures.some).copper

pub touches_area-requires-clause-item_few : goal.touches_area-requires-clause-item_few
touches_area-requires-clause-item_few g c =
    rw (c.stacks.ensures, c.view.ensures) (fit_at c.args.design.now.parts c.args.board.now.live c.args.pair.0.0 c.in_ok-item.item.now c.requires.board.fit c.in_ok-item.ensures.some).few

pub returns-then-not-touches_area-clause-least : goal.returns-then-not-touches_area-clause-least
returns-then-not-touches_area-clause-least g c =
    let told = rw (c.stacks.ensures, c.view.ensures, c.as_slice.ensures, c.as_slice-2.ensures) at c.if-not-touches_area.ensures.touches in
    pair_apart c.args.design.now.parts c.args.board.now.live c.args.client c.args.layers.now c.args.area.now c.args.pair.0.0 c.args.pair.1 c.in_ok-item.item.now c.in_ok-item.ensures.only
    (λ t. let wrong : false ≡ true = told.1 t in absurd cc)

pub returns-then-not-touches_area-clause-cost : goal.returns-then-not-touches_area-clause-cost
returns-then-not-touches_area-clause-cost g c =
    let taken = rw (c.stacks.ensures, c.view.ensures, c.as_slice.ensures, c.as_slice-2.ensures) at c.touches_area.ensures.cost in
    let most = sum_at (area_most c.args.design.now.parts c.args.layers.now c.args.area.now) c.args.pair.0.0 c.args.board.now.live c.in_ok-item.item.now c.in_ok-item.ensures.some in omega (arith, taken, most)

pub returns-clause-cost : goal.returns-clause-cost
returns-clause-cost g c =
    let taken = rw (c.stacks.ensures, c.view.ensures, c.as_slice.ensures, c.as_slice-2.ensures) at c.touches_area.ensures.cost in
    let most = sum_at (area_most c.args.design.now.parts c.args.layers.now c.args.area.now) c.args.pair.0.0 c.args.board.now.live c.in_ok-item.item.now c.in_ok-item.ensures.some in omega (arith, taken, most)
