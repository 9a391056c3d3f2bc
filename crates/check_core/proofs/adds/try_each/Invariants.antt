use Rattle.std.proofs.Common.{◌+◌, ◌≤◌, take, drop}
use Rattle.std.specs.Prelude.{Option}
use Rattle.board_items.specs.declared.history.Why.{Why}
use Rattle.board_rules.specs.Costs.{adds_most}
use Rattle.board_rules.specs.Reasons.{IsAddsReason}
use Rattle.check_core.specs.Tries.{earlier_of, AreTried}
use Rattle.check_core.proofs.adds.try_each.Given as goal

-- The adds so far have their marks, and the reason so far and that of the rest are that of all.
abbrev pub invariant-loop-i : goal.invariant-loop-i
invariant-loop-i g l = record {
  right : AreTried l.design.parts (take l.i l.adds) l.right;
  so_far : (more : Option Why) → IsAddsReason l.design.parts (l.i + 1) (drop l.i l.adds) more → IsAddsReason l.design.parts 1 l.adds (earlier_of l.why more);
  cost : l.steps + adds_most l.design.parts (drop l.i l.adds) ≤ l.initial.steps + adds_most l.design.parts l.adds;
}
