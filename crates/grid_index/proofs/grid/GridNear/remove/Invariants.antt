use Rattle.std.proofs.Common.{◌≡◌, length}
use Rattle.seg_geometry.specs.Near.{without}
use Rattle.near_slots.specs.Slots.{filed_in}
use Rattle.grid_index.specs.Levels.{AreInCells}
use Rattle.grid_index.proofs.grid.GridNear.remove.Given as goal

abbrev pub invariant-loop-slot : goal.invariant-loop-slot
invariant-loop-slot l = record {
  filed : AreInCells l.self-inside.levels.items l.self-inside.shelf;
  rest : without l.id (filed_in l.self-inside.shelf) ≡ without l.id (filed_in l.initial.self-inside.shelf);
}

abbrev pub decreases-loop-slot : goal.decreases-loop-slot
decreases-loop-slot l = length (filed_in l.self-inside.shelf)
