use Rattle.std.proofs.Common.{◌≤◌, ◌+◌, ◌*◌, take, drop}
use Rattle.std.specs.Prelude.{All}
use Rattle.area_geometry.specs.Apart.{AreShapesApart}
use Rattle.board_items.specs.Adds.{item_seen}
use Rattle.board_items.specs.Shapes.{copper_of_item}
use Rattle.board_items.specs.Segments.{segments_in}
use Rattle.board_rules.proofs.pairs.items_keep.Given as goal

-- The shapes so far keep the distance from each shape of the other item, and those that are left have their part of the steps.
abbrev pub invariant-loop-i : goal.invariant-loop-i
invariant-loop-i g l = record {
  kept : All (λ s. All (λ t. AreShapesApart s t l.gap) (copper_of_item l.stacks (item_seen l.b))) (take l.i (copper_of_item l.stacks (item_seen l.a)));
  cost : l.steps + segments_in (drop l.i (copper_of_item l.stacks (item_seen l.a))) * segments_in (copper_of_item l.stacks (item_seen l.b)) ≤ l.initial.steps + segments_in (copper_of_item l.stacks (item_seen l.a)) * segments_in (copper_of_item l.stacks (item_seen l.b));
}
