use Rattle.std.proofs.Common.{◌≤◌, ◌+◌, take, drop}
use Rattle.board_items.specs.Adds.{item_seen}
use Rattle.board_items.specs.Shapes.{copper_of_item}
use Rattle.boundaries.specs.Costs.{boundary_most, fences_most}
use Rattle.boundaries.proofs.Leasts.{AreTouched}
use Rattle.boundaries.proofs.walks.touched_by.Given as goal

-- the numbers are those of the boundaries so far that are touched, and those that are left have their part of the steps
abbrev pub invariant-loop-fence : goal.invariant-loop-fence
invariant-loop-fence g l = record {
  touched : AreTouched (take l.fence-index l.live) (copper_of_item l.stacks (item_seen l.item)) l.ids;
  cost : l.steps + fences_most (boundary_most (copper_of_item l.stacks (item_seen l.item))) 0 (drop l.fence-index l.live) ≤ l.initial.steps + fences_most (boundary_most (copper_of_item l.stacks (item_seen l.item))) 0 l.live;
}
