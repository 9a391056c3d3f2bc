use Rattle.near_slots.specs.Looks.{Looks}
use Rattle.grid_index.specs.Levels.{IsInColumn}
use Rattle.grid_index.proofs.cell_search.look_in_rows.Given as goal

abbrev pub invariant-loop-row : goal.invariant-loop-row
invariant-loop-row l = Looks l.search.shelf.now l.search.layer l.search.rect (IsInColumn l.cells l.search.layer l.column l.fn.rows.0 l.row) l.initial.found.items l.found.items
