use Rattle.std.proofs.Common.{◌≡◌, ◌+◌, refl, sym, subst, ◌∙◌, arith, true, false, take}
use Rattle.std.proofs.lemmas.Option.{slice_get_read}
use Rattle.board_items.specs.Adds.{item_seen}
use Rattle.board_items.specs.Shapes.{copper_of_item}
use Rattle.boundaries.specs.Costs.{boundary_most}
use Rattle.boundaries.proofs.Walked.{most_of_all}
use Rattle.boundaries.proofs.Leasts.{AreTouched, touched_not, touched_on, touched_all}
use Rattle.boundaries.proofs.walks.touched_by.Goals as goal
use Rattle.boundaries.proofs.walks.touched_by.Goals.{then-is_touched+in_ok-push, else-is_touched}

pub returns-in_err-push-clause-cost : goal.returns-in_err-push-clause-cost
returns-in_err-push-clause-cost g c =
    let xs = c.args.live.now in
    let here = slice_get_read xs _ c.loop-fence.fence-index c.fence-item.result refl c.loop-fence-test.true c.fence-item.is in
    let left = most_of_all (boundary_most (copper_of_item c.args.stacks.now (item_seen c.args.item))) xs c.loop-fence.fence-index c.fence-item.result c.requires.rising here in
    omega (arith, left, c.loop-fence.invariant.cost, c.is_touched.ensures.cost)

pub loop-fence-preserved : goal.loop-fence-preserved
loop-fence-preserved g c =
    let xs = c.args.live.now in
    let shapes = copper_of_item c.args.stacks.now (item_seen c.args.item) in
    let i = c.loop-fence.fence-index in
    let here = slice_get_read xs _ i c.fence-item.result refl c.loop-fence-test.true c.fence-item.is in
    let left = most_of_all (boundary_most (copper_of_item c.args.stacks.now (item_seen c.args.item))) xs i c.fence-item.result c.requires.rising here in record {
      touched = elim c.if-is_touched.branch [
        | then-is_touched+in_ok-push w ↦ touched_on xs shapes c.loop-fence.ids c.if-is_touched.ids i w.number.result c.fence-item.result c.requires.rising here c.loop-fence.invariant.touched
            (w.if-is_touched.ensures.touches.0 refl) w.number.ensures (w.ids-is ∙ w.in_ok-push.ensures)
        | else-is_touched w ↦ subst (AreTouched (take (i + 1) xs) shapes) (sym w.ids-is)
            (touched_not xs shapes c.loop-fence.ids i c.fence-item.result here c.loop-fence.invariant.touched (λ t. let wrong : false ≡ true = w.if-is_touched.ensures.touches.1 t in absurd (cc)))
      ];
      cost = omega (arith, left, c.loop-fence.invariant.cost, c.is_touched.ensures.cost);
    }

pub returns-clause-exact : goal.returns-clause-exact
returns-clause-exact g c =
    let shapes = copper_of_item c.args.stacks.now (item_seen c.args.item) in
    (touched_all c.args.live.now shapes c.loop-fence.ids c.loop-fence.fence-index c.loop-fence-test.false c.loop-fence.invariant.touched).exact
