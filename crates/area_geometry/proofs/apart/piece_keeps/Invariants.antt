use Rattle.std.proofs.Common.{◌≤◌, ◌+◌, take}
use Rattle.std.specs.Prelude.{All}
use Rattle.seg_geometry.specs.Apart.{IsApart}
use Rattle.area_geometry.specs.Copper.{copper_of, pieces_of}
use Rattle.area_geometry.proofs.apart.piece_keeps.Given as goal

abbrev pub invariant-loop-j : goal.invariant-loop-j
invariant-loop-j g l = record {
  kept : All (λ b. IsApart l.piece b l.k) (take l.j (pieces_of (copper_of l.t)));
  cost : l.steps ≤ l.initial.steps + l.j;
}
