use Rattle.near_slots.specs.Looks.{Looks}
use Rattle.grid_index.specs.Levels.{IsInColumns}
use Rattle.grid_index.proofs.cell_search.look_in_cells.Given as goal

abbrev pub invariant-loop-column : goal.invariant-loop-column
invariant-loop-column l = Looks l.search.shelf.now l.search.layer l.search.rect (IsInColumns l.cells l.search.layer l.fn.columns.0 l.column l.rows.0 l.rows.1) l.initial.found.items l.found.items
