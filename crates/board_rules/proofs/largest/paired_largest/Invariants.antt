use Rattle.std.proofs.Common.{◌≡◌, max, drop}
use Rattle.board_rules.specs.declared.design.Parts.{Parts}
use Rattle.board_rules.specs.Pairs.{largest_paired}
use Rattle.board_rules.specs.PairTables.{pair_tables_of}
use Rattle.board_rules.proofs.largest.paired_largest.Given as goal

-- The larger of what was found and what is left is the largest of all.
abbrev pub invariant-loop-row : goal.invariant-loop-row
invariant-loop-row l = (p : Parts) → l.tables ≡ pair_tables_of p → max l.most (largest_paired p (drop l.row-index l.rows)) ≡ largest_paired p l.rows
