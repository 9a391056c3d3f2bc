use Rattle.near_slots.specs.Looks.{Looks}
use Rattle.grid_index.specs.Levels.{IsAskedBelow}
use Rattle.grid_index.proofs.cell_search.look.Given as goal

abbrev pub invariant-loop-level : goal.invariant-loop-level
invariant-loop-level l = Looks l.search.shelf.now l.search.layer l.search.rect (IsAskedBelow l.levels l.search.layer l.search.rect l.level) l.initial.found.items l.found.items
