use Rattle.std.proofs.Common.{◌≤◌, ◌+◌, take, drop}
use Rattle.board_items.specs.Adds.{item_seen}
use Rattle.board_items.specs.Shapes.{copper_of_item}
use Rattle.boundaries.specs.Costs.{boundary_most, fences_most}
use Rattle.boundaries.proofs.Walked.{NoneIs}
use Rattle.boundaries.proofs.Leasts.{Bars}
use Rattle.boundaries.proofs.walks.least_foreign.Given as goal

-- no boundary so far bars the client, and those that are left have their part of the steps
abbrev pub invariant-loop-fence : goal.invariant-loop-fence
invariant-loop-fence g l = record {
  none : NoneIs (Bars (copper_of_item l.stacks (item_seen l.item)) l.client l.above) (take l.fence-index l.live);
  cost : l.steps + fences_most (boundary_most (copper_of_item l.stacks (item_seen l.item))) l.above (drop l.fence-index l.live) ≤ l.initial.steps + fences_most (boundary_most (copper_of_item l.stacks (item_seen l.item))) l.above l.live;
}
