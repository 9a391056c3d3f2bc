use Rattle.std.proofs.Common.{◌≤◌, ◌+◌, take, drop}
use Rattle.std.specs.Prelude.{All}
use Rattle.board_items.specs.Adds.{item_seen}
use Rattle.board_items.specs.Shapes.{copper_of_item}
use Rattle.boundaries.specs.Costs.{shapes_most}
use Rattle.boundaries.specs.Touching.{IsTouching}
use Rattle.boundaries.proofs.touching.touches_area.Given as goal

-- the shapes so far don't touch the area, and those that are left have their part of the steps
abbrev pub invariant-loop-i : goal.invariant-loop-i
invariant-loop-i g l = record {
  none : All (λ s. IsTouching l.layers l.area s → ⊥) (take l.i (copper_of_item l.stacks (item_seen l.item)));
  cost : l.steps + shapes_most l.layers l.area (drop l.i (copper_of_item l.stacks (item_seen l.item))) ≤ l.initial.steps + shapes_most l.layers l.area (copper_of_item l.stacks (item_seen l.item));
}
