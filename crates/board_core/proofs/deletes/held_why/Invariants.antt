use Rattle.std.proofs.Common.{drop}
use Rattle.std.specs.Prelude.{Option}
use Rattle.board_items.specs.declared.history.Why.{Why}
use Rattle.board_core.specs.Edits.{IsHeldReason}
use Rattle.board_core.proofs.deletes.held_why.Given as goal

-- What the deletes that are left give is what all give.
abbrev pub invariant-loop-id : goal.invariant-loop-id
invariant-loop-id l = (w : Option Why) → IsHeldReason l.board.held l.client (drop l.id-index l.deletes) w → IsHeldReason l.board.held l.client l.deletes w
