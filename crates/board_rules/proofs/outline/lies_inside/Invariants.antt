use Rattle.std.proofs.Common.{◌≤◌, ◌+◌, ◌*◌, take, drop}
use Rattle.std.specs.Prelude.{All}
use Rattle.board_items.specs.Adds.{item_seen}
use Rattle.board_items.specs.Shapes.{copper_of_item}
use Rattle.board_items.specs.Segments.{segments_in}
use Rattle.board_rules.specs.Costs.{edges_of}
use Rattle.board_rules.specs.Reasons.{IsInside}
use Rattle.board_rules.proofs.outline.lies_inside.Given as goal

-- The shapes before are inside, and those that are left have their part of the steps.
abbrev pub invariant-loop-i : goal.invariant-loop-i
invariant-loop-i g l = record {
  inside : All (IsInside l.areas) (take l.i (copper_of_item l.stacks (item_seen l.item)));
  cost : l.steps + segments_in (drop l.i (copper_of_item l.stacks (item_seen l.item))) * edges_of l.areas ≤ l.initial.steps + segments_in (copper_of_item l.stacks (item_seen l.item)) * edges_of l.areas;
}
