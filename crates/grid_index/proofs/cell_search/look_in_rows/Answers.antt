use Rattle.std.proofs.Common.{◌≡◌, sym, ◌∙◌, arith}
use Rattle.std.specs.List.{Contains}
use Rattle.near_slots.specs.Tables.{IsIn}
use Rattle.grid_index.specs.Cells.{key_of}
use Rattle.grid_index.specs.Levels.{IsInColumn}
use Rattle.grid_index.proofs.SearchLemmas.{Looks-rows_more}
use Rattle.near_slots.proofs.LookLemmas.{Looks-fewer, Looks-none}
use Rattle.grid_index.proofs.cell_search.look_in_rows.Goals as goal

pub loop-row-init : goal.loop-row-init
loop-row-init c = Looks-none _ _ _ _ _ (λ k w. omega (arith, w.low, w.high))

pub loop-row-preserved : goal.loop-row-preserved
loop-row-preserved c =
    let cells = c.args.cells.now in
    Looks-rows_more _ _ _ cells c.args.column _ c.loop-row.row _ _ _ c.loop-row.invariant
    (Looks-fewer _ _ _ (Contains c.bucket.result.now) (λ s. (s.key ≡ key_of c.args.search.now.layer c.args.column c.loop-row.row) × IsIn cells s) _ _
    (λ s w. c.bucket.ensures s (w.0 ∙ sym c.key_of-key.ensures) w.1) c.in_ok-look_in.ensures)

pub returns : goal.returns
returns c = Looks-fewer _ _ _ (IsInColumn c.args.cells.now c.args.search.now.layer c.args.column c.args.rows.0 c.loop-row.row) _ _ _
    (λ k w. record { row = w.row; low = w.low; high = omega (arith, w.high, c.loop-row-test.false); key = w.key; stands = w.stands }) c.loop-row.invariant
