use Rattle.std.proofs.Common.{◌≡◌, max, drop}
use Rattle.board_rules.specs.Classes.{largest_typed}
use Rattle.board_rules.proofs.largest.classes_largest.Given as goal

-- The larger of what was found and what is left is the largest of all.
abbrev pub invariant-loop-class : goal.invariant-loop-class
invariant-loop-class l = max l.most (largest_typed (drop l.class-index l.classes)) ≡ largest_typed l.classes
