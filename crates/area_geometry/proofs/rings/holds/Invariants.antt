use Rattle.std.proofs.Common.{◌≡◌, ◌≤◌, take}
use Rattle.std.specs.List.{count_by}
use Rattle.area_geometry.specs.Copper.{copper_of, pieces_of}
use Rattle.area_geometry.specs.Rings.{counts}
use Rattle.area_geometry.proofs.rings.holds.Given as goal

abbrev pub invariant-loop-i : goal.invariant-loop-i
invariant-loop-i l = record {
  counted : l.crossed ≡ count_by (counts l.v) (take l.i (pieces_of (copper_of l.area)));
  bound : l.crossed ≤ l.i;
}
