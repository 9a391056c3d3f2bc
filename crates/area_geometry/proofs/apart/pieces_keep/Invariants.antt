use Rattle.std.proofs.Common.{◌≤◌, ◌+◌, ◌*◌, take, length}
use Rattle.std.specs.Prelude.{All}
use Rattle.seg_geometry.specs.Apart.{IsApart}
use Rattle.area_geometry.specs.Copper.{copper_of, pieces_of}
use Rattle.area_geometry.proofs.apart.pieces_keep.Given as goal

abbrev pub invariant-loop-i : goal.invariant-loop-i
invariant-loop-i g l = record {
  kept : All (λ a. All (λ b. IsApart a b l.k) (pieces_of (copper_of l.t))) (take l.i (pieces_of (copper_of l.s)));
  cost : l.steps ≤ l.initial.steps + l.i * length (pieces_of (copper_of l.t));
}
