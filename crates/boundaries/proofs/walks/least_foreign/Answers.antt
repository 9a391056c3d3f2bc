use Rattle.std.proofs.Common.{◌≡◌, refl, arith, true, false}
use Rattle.std.proofs.lemmas.Option.{slice_get_read}
use Rattle.board_items.specs.Adds.{item_seen}
use Rattle.board_items.specs.Shapes.{copper_of_item}
use Rattle.boundaries.specs.Costs.{boundary_most}
use Rattle.boundaries.proofs.Walked.{none_on, none_all, most_left}
use Rattle.boundaries.proofs.Leasts.{Bars, foreign_found, foreign_none}
use Rattle.boundaries.proofs.walks.least_foreign.Goals as goal

pub returns-then-bars-clause-least : goal.returns-then-bars-clause-least
returns-then-bars-clause-least g c =
    let xs = c.args.live.now in
    let shapes = copper_of_item c.args.stacks.now (item_seen c.args.item) in
    let here = slice_get_read xs _ c.loop-fence.fence-index c.fence-item.result refl c.loop-fence-test.true c.fence-item.is in
    foreign_found xs shapes c.args.client c.args.above c.loop-fence.fence-index c.number.result c.fence-item.result c.requires.rising here c.loop-fence.invariant.none
    (c.if-bars.ensures.past refl, c.if-bars.ensures.foreign refl, c.if-bars.ensures.touched refl) c.number.ensures

pub loop-fence-preserved : goal.loop-fence-preserved
loop-fence-preserved g c =
    let xs = c.args.live.now in
    let shapes = copper_of_item c.args.stacks.now (item_seen c.args.item) in
    let here = slice_get_read xs _ c.loop-fence.fence-index c.fence-item.result refl c.loop-fence-test.true c.fence-item.is in
    let left = most_left (boundary_most (copper_of_item c.args.stacks.now (item_seen c.args.item))) c.args.above xs c.loop-fence.fence-index c.fence-item.result here in record {
      none = none_on (Bars shapes c.args.client c.args.above) xs c.loop-fence.fence-index c.fence-item.result here c.loop-fence.invariant.none
          (λ b. let wrong : false ≡ true = c.if-bars.ensures.all b.0 b.1 b.2 in absurd (cc));
      cost = omega (arith, left, c.loop-fence.invariant.cost, c.if-bars.ensures.cost);
    }

pub returns-clause-least : goal.returns-clause-least
returns-clause-least g c =
    let xs = c.args.live.now in
    let shapes = copper_of_item c.args.stacks.now (item_seen c.args.item) in
    foreign_none xs shapes c.args.client c.args.above (none_all (Bars shapes c.args.client c.args.above) xs c.loop-fence.fence-index c.loop-fence-test.false c.loop-fence.invariant.none)
