use Rattle.std.proofs.Common.{◌+◌, ◌≤◌, take, drop}
use Rattle.std.specs.Prelude.{Any}
use Rattle.board_items.specs.declared.requests.Add.{Add}
use Rattle.board_core.specs.Costs.{adds_touch_most}
use Rattle.check_core.specs.Tries.{GrowsBy, IsMetByAdd}
use Rattle.check_core.proofs.touched.adds_touched.Given as goal

-- What the adds so far meet has come, and the steps that are left are those of the others.
abbrev pub invariant-loop-i : goal.invariant-loop-i
invariant-loop-i g l = record {
  found : GrowsBy (λ n. Any (λ (add : Add). IsMetByAdd l.design.parts l.board add n) (take l.i l.adds)) l.initial.found l.found;
  cost : l.steps + adds_touch_most l.design.parts l.board.fences (drop l.i l.adds) ≤ l.initial.steps + adds_touch_most l.design.parts l.board.fences l.adds;
}
