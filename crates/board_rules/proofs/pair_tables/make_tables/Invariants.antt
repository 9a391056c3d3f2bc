use Rattle.std.proofs.Common.{◌≡◌, drop}
use Rattle.board_rules.specs.PairTables.{put_rows}
use Rattle.board_rules.proofs.pair_tables.make_tables.Given as goal

-- The tables of the rows that are left, put to those so far, are those of all.
abbrev pub invariant-loop-row : goal.invariant-loop-row
invariant-loop-row l = put_rows l.numbers (drop l.row-index l.rows) l.tables.entries ≡ put_rows l.numbers l.rows l.initial.tables.entries
