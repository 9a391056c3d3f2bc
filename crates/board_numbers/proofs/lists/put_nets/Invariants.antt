use Rattle.std.proofs.Common.{◌≡◌, ◌++◌, drop}
use Rattle.board_numbers.specs.Lines.{net_line}
use Rattle.board_numbers.specs.Numbers.{numbered}
use Rattle.board_numbers.proofs.lists.put_nets.Given as goal

abbrev pub invariant-loop-n : goal.invariant-loop-n
invariant-loop-n l = l.out ++ numbered net_line l.n (drop l.n l.nets) ≡ l.initial.out ++ numbered net_line 0 l.nets
