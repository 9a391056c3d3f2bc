use Rattle.std.proofs.Common.{◌≤◌, ◌+◌, ◌*◌, length, take, drop}
use Rattle.std.specs.Prelude.{All}
use Rattle.area_geometry.specs.Copper.{copper_of, pieces_of}
use Rattle.area_geometry.specs.Apart.{AreShapesApart}
use Rattle.board_items.specs.Adds.{item_seen}
use Rattle.board_items.specs.Shapes.{copper_of_item}
use Rattle.board_items.specs.Segments.{segments_in}
use Rattle.board_rules.proofs.pairs.shape_clears.Given as goal

-- The shapes so far keep the distance, and those that are left have their part of the steps.
abbrev pub invariant-loop-j : goal.invariant-loop-j
invariant-loop-j g l = record {
  kept : All (λ t. AreShapesApart (copper_of l.s) t l.gap) (take l.j (copper_of_item l.stacks (item_seen l.b)));
  cost : l.steps + length (pieces_of (copper_of l.s)) * segments_in (drop l.j (copper_of_item l.stacks (item_seen l.b))) ≤ l.initial.steps + length (pieces_of (copper_of l.s)) * segments_in (copper_of_item l.stacks (item_seen l.b));
}
