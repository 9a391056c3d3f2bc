use Rattle.std.proofs.Common.{drop, take, map}
use Rattle.std.specs.Prelude.{All}
use Rattle.std.specs.List.{AllByRecursion}
use Rattle.seg_geometry.specs.Points.{IsInRange}
use Rattle.area_geometry.specs.Copper.{moved}
use Rattle.board_rules.proofs.vias.points_in_range.Given as goal

-- The points that are left are in range, and those before are it where they are moved to.
abbrev pub invariant-loop-p : goal.invariant-loop-p
invariant-loop-p l = record {
  left : AllByRecursion IsInRange (drop l.p-index l.points);
  moved_in : All IsInRange (take l.p-index (map (moved l.at) l.points));
}
