use Rattle.std.proofs.Common.{◌≡◌, ◌++◌, drop}
use Rattle.board_numbers.specs.Lines.{stack_line}
use Rattle.board_numbers.specs.Numbers.{numbered}
use Rattle.board_numbers.proofs.lists.put_stacks.Given as goal

abbrev pub invariant-loop-n : goal.invariant-loop-n
invariant-loop-n l = l.out ++ numbered stack_line l.n (drop l.n l.stacks) ≡ l.initial.out ++ numbered stack_line 0 l.stacks
