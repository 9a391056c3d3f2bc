use Rattle.std.proofs.Common.{◌≡◌, ◌++◌, drop}
use Rattle.board_rules.specs.Classes.{untyped_in}
use Rattle.board_rules.proofs.tables.untyped_in.Given as goal

-- The values so far and those of the classes that are left are the values of all.
abbrev pub invariant-loop-class : goal.invariant-loop-class
invariant-loop-class l = l.all ++ untyped_in (drop l.class-index l.classes) ≡ untyped_in l.classes
