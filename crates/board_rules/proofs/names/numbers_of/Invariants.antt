use Rattle.std.proofs.Common.{◌≡◌, ◌++◌, drop}
use Rattle.board_rules.specs.Numbers.{texts, numbers_after}
use Rattle.board_rules.proofs.names.numbers_of.Given as goal

-- The numbers so far and those of the classes that are left are those of all.
abbrev pub invariant-loop-class : goal.invariant-loop-class
invariant-loop-class l = l.numbers ++ numbers_after (texts l.names.keys) (drop l.class-index l.classes) ≡ l.initial.numbers ++ numbers_after (texts l.initial.names.keys) l.classes
