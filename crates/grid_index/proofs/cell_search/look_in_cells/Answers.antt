use Rattle.std.proofs.Common.{arith}
use Rattle.grid_index.specs.Levels.{IsInColumns}
use Rattle.grid_index.proofs.SearchLemmas.{Looks-cells_more}
use Rattle.near_slots.proofs.LookLemmas.{Looks-fewer, Looks-none}
use Rattle.grid_index.proofs.cell_search.look_in_cells.Goals as goal

pub loop-column-init : goal.loop-column-init
loop-column-init c = Looks-none _ _ _ _ _ (λ k w. omega (arith, w.low, w.high))

pub loop-column-preserved : goal.loop-column-preserved
loop-column-preserved c = Looks-cells_more _ _ _ _ _ c.loop-column.column _ _ _ _ _ c.loop-column.invariant c.in_ok-look_in_rows.ensures

pub returns : goal.returns
returns c = Looks-fewer _ _ _ (IsInColumns c.args.cells.now c.args.search.now.layer c.args.columns.0 c.loop-column.column c.args.rows.0 c.args.rows.1) _ _ _
    (λ k w. record { column = w.column; low = w.low; high = omega (arith, w.high, c.loop-column-test.false); stands = w.stands }) c.loop-column.invariant
