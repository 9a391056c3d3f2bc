use Rattle.std.proofs.Common.{◌≡◌, ◌++◌, drop}
use Rattle.row_lists.proofs.row.Row.copy_of.Given as goal

abbrev pub invariant-loop-item : goal.invariant-loop-item
invariant-loop-item g l = l.made.items ++ drop l.item-index l.items ≡ l.items
