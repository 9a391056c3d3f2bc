use Rattle.std.proofs.Common.{◌≡◌, ◌++◌, drop}
use Rattle.board_numbers.specs.Lines.{layer_line}
use Rattle.board_numbers.specs.Numbers.{numbered}
use Rattle.board_numbers.proofs.lists.put_layers.Given as goal

abbrev pub invariant-loop-n : goal.invariant-loop-n
invariant-loop-n l = l.out ++ numbered layer_line l.n (drop l.n l.layers) ≡ l.initial.out ++ numbered layer_line 0 l.layers
