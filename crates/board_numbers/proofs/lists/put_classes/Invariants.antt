use Rattle.std.proofs.Common.{◌≡◌, ◌++◌, drop}
use Rattle.board_numbers.specs.Lines.{class_line}
use Rattle.board_numbers.specs.Numbers.{numbered}
use Rattle.board_numbers.proofs.lists.put_classes.Given as goal

abbrev pub invariant-loop-n : goal.invariant-loop-n
invariant-loop-n l = l.out ++ numbered class_line l.n (drop l.n l.classes) ≡ l.initial.out ++ numbered class_line 0 l.classes
