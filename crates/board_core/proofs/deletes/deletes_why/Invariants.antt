use Rattle.std.proofs.Common.{drop, take, []}
use Rattle.std.specs.Prelude.{Option}
use Rattle.board_items.specs.declared.history.Why.{Why}
use Rattle.board_core.specs.Edits.{IsDeletesReason}
use Rattle.board_core.proofs.deletes.deletes_why.Given as goal

-- What the deletes that are left give, behind those before them, is what all give.
abbrev pub invariant-loop-i : goal.invariant-loop-i
invariant-loop-i l = (w : Option Why) → IsDeletesReason l.board.live (take l.i l.deletes) (drop l.i l.deletes) w → IsDeletesReason l.board.live [] l.deletes w
