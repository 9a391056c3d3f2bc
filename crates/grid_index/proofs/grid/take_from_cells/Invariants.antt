use Rattle.grid_index.specs.Levels.{LevelsKeepOthers}
use Rattle.grid_index.proofs.grid.take_from_cells.Given as goal

abbrev pub invariant-loop-level : goal.invariant-loop-level
invariant-loop-level l = LevelsKeepOthers l.slot l.initial.levels.items l.levels.items
