use Rattle.std.proofs.Common.{◌≡◌, ◌+◌, ◌++◌, drop}
use Rattle.board_numbers.specs.Lines.{item_line}
use Rattle.board_numbers.specs.Numbers.{numbered}
use Rattle.board_numbers.proofs.items.put_items.Given as goal

abbrev pub invariant-loop-i : goal.invariant-loop-i
invariant-loop-i l = l.out ++ numbered (item_line l.origins) (l.i + 1) (drop l.i l.items) ≡ l.initial.out ++ numbered (item_line l.origins) 1 l.items
