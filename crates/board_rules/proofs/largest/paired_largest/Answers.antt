use Rattle.std.proofs.Common.{◌≡◌, ◌+◌, ◌∙◌, ℕ, List, max, drop, ap, arith}
use Rattle.board_rules.specs.declared.design.PairRow.{PairRow}
use Rattle.board_rules.specs.declared.pair_tables.PairTable.{PairTable}
use Rattle.board_rules.specs.Classes.{largest_in}
use Rattle.board_rules.specs.Pairs.{pair_rows, largest_paired}
use Rattle.board_rules.specs.PairTables.{most_of, key_of, table_at}
use Rattle.board_rules.proofs.Keyed.{paired_is}
use Rattle.board_rules.proofs.Stating.{largest_is}
use Rattle.board_rules.proofs.Walked.{left_is}
use Rattle.board_rules.proofs.largest.paired_largest.Goals as goal

pub loop-row-preserved : goal.loop-row-preserved
loop-row-preserved c = λ p is.
    let row = c.row-item.result in
    let table = c.table.ensures ∙ ap (λ (ts : List ℕ × List ((ℕ × ℕ) × PairTable)). table_at ts.1 (key_of ts.0 row.a row.b)) is ∙ paired_is p row.a row.b in
    let one : c.most.result ≡ largest_in (pair_rows p row.a row.b) = c.most.ensures ∙ ap most_of table ∙ largest_is (pair_rows p row.a row.b) in
    let rest = drop (c.loop-row.row-index + 1) c.args.rows.now in
    let left : largest_paired p (drop c.loop-row.row-index c.args.rows.now) ≡ max (largest_in (pair_rows p row.a row.b)) (largest_paired p rest) =
    ap (λ (rows : List PairRow). largest_paired p rows) (left_is c.args.rows.now c.loop-row.row-index row c.loop-row-test.true c.row-item.is) in
    let most = c.max-most.ensures in
    let before = c.loop-row.invariant p is in
    omega (arith, one, left, most, before)
