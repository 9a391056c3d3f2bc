use Rattle.std.proofs.Common.{◌≡◌, refl, arith, true, false}
use Rattle.std.proofs.lemmas.Option.{slice_get_read}
use Rattle.boundaries.specs.Costs.{overlap_most}
use Rattle.boundaries.proofs.Walked.{none_on, none_all, most_of_all}
use Rattle.boundaries.proofs.Leasts.{IsBarred, overlapped_found, overlapped_none}
use Rattle.boundaries.proofs.walks.least_overlapped.Goals as goal

pub returns-then-is_overlapped-clause-least : goal.returns-then-is_overlapped-clause-least
returns-then-is_overlapped-clause-least g c =
    let xs = c.args.live.now in
    let here = slice_get_read xs _ c.loop-fence.fence-index c.fence-item.result refl c.loop-fence-test.true c.fence-item.is in
    overlapped_found xs c.args.layers.now c.args.area.now c.args.client c.loop-fence.fence-index c.number.result c.fence-item.result c.requires.rising here c.loop-fence.invariant.none
    (c.if-is_overlapped.ensures.overlapped.0 refl) c.number.ensures

pub returns-then-is_overlapped-clause-cost : goal.returns-then-is_overlapped-clause-cost
returns-then-is_overlapped-clause-cost g c =
    let xs = c.args.live.now in
    let here = slice_get_read xs _ c.loop-fence.fence-index c.fence-item.result refl c.loop-fence-test.true c.fence-item.is in
    let left = most_of_all (overlap_most c.args.layers.now c.args.area.now) xs c.loop-fence.fence-index c.fence-item.result c.requires.rising here in
    omega (arith, left, c.loop-fence.invariant.cost, c.if-is_overlapped.ensures.cost)

pub loop-fence-preserved : goal.loop-fence-preserved
loop-fence-preserved g c =
    let xs = c.args.live.now in
    let here = slice_get_read xs _ c.loop-fence.fence-index c.fence-item.result refl c.loop-fence-test.true c.fence-item.is in
    let left = most_of_all (overlap_most c.args.layers.now c.args.area.now) xs c.loop-fence.fence-index c.fence-item.result c.requires.rising here in record {
      none = none_on (IsBarred c.args.layers.now c.args.area.now c.args.client) xs c.loop-fence.fence-index c.fence-item.result here c.loop-fence.invariant.none
          (λ b. let wrong : false ≡ true = c.if-is_overlapped.ensures.overlapped.1 b in absurd (cc));
      cost = omega (arith, left, c.loop-fence.invariant.cost, c.if-is_overlapped.ensures.cost);
    }

pub returns-clause-least : goal.returns-clause-least
returns-clause-least g c =
    let xs = c.args.live.now in
    overlapped_none xs c.args.layers.now c.args.area.now c.args.client
    (none_all (IsBarred c.args.layers.now c.args.area.now c.args.client) xs c.loop-fence.fence-index c.loop-fence-test.false c.loop-fence.invariant.none)
