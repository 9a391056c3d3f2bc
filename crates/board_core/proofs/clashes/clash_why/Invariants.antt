use Rattle.std.proofs.Common.{◌+◌, ◌≤◌, drop}
use Rattle.std.specs.Prelude.{Option}
use Rattle.std.specs.List.{AllByRecursion}
use Rattle.board_items.specs.declared.history.Why.{Why}
use Rattle.board_rules.specs.FitAdds.{IsFitAdd}
use Rattle.number_slots.specs.Slots.{without}
use Rattle.board_core.specs.Costs.{clashes_most}
use Rattle.board_core.specs.Edits.{IsClashReason}
use Rattle.board_core.proofs.clashes.clash_why.Given as goal

-- What the adds that are left give is what all give, and they take the steps that are left.
abbrev pub invariant-loop-i : goal.invariant-loop-i
invariant-loop-i g l = record {
  fit : AllByRecursion (IsFitAdd l.design.parts) (drop l.i l.adds);
  same : (w : Option Why) → IsClashReason l.design.parts l.board.rules l.board.live l.deletes (l.i + 1) (drop l.i l.adds) w → IsClashReason l.design.parts l.board.rules l.board.live l.deletes 1 l.adds w;
  cost : l.steps + clashes_most l.design.parts (without l.deletes l.board.live) (drop l.i l.adds) ≤ l.initial.steps + clashes_most l.design.parts (without l.deletes l.board.live) l.adds;
}
