use Rattle.std.proofs.Common.{◌≡◌, ◌++◌, drop}
use Rattle.board_rules.specs.Tables.{tables_of}
use Rattle.board_rules.proofs.tables.tables_of.Given as goal

-- The tables so far and those of the classes that are left are the tables of all.
abbrev pub invariant-loop-class : goal.invariant-loop-class
invariant-loop-class l = l.all ++ tables_of (drop l.class-index l.classes) ≡ tables_of l.classes
