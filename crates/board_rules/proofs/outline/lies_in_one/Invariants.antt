use Rattle.std.proofs.Common.{◌≤◌, ◌+◌, ◌*◌, length, drop, take, List}
use Rattle.std.specs.Prelude.{All}
use Rattle.std.specs.List.{AllByRecursion}
use Rattle.seg_geometry.specs.declared.points.Pt.{Pt}
use Rattle.area_geometry.specs.Copper.{copper_of, pieces_of}
use Rattle.area_geometry.specs.Apart.{LiesWithin}
use Rattle.board_rules.specs.Designs.{IsFitArea}
use Rattle.board_rules.specs.Costs.{edges_of}
use Rattle.board_rules.proofs.outline.lies_in_one.Given as goal

-- The areas that are left are fit and have their part of the steps, and the shape lies within none of those before.
abbrev pub invariant-loop-area : goal.invariant-loop-area
invariant-loop-area g l = record {
  left : AllByRecursion IsFitArea (drop l.area-index l.areas);
  cost : l.steps + length (pieces_of (copper_of l.s)) * edges_of (drop l.area-index l.areas) ≤ l.initial.steps + length (pieces_of (copper_of l.s)) * edges_of l.areas;
  none : All (λ (area : List Pt). LiesWithin (copper_of l.s) area → ⊥) (take l.area-index l.areas);
}
