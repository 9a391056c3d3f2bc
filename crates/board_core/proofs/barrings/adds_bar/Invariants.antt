use Rattle.std.proofs.Common.{take, drop, ◌+◌, ◌≤◌}
use Rattle.board_items.specs.declared.requests.Add.{Add}
use Rattle.board_items.specs.Adds.{item_of_add}
use Rattle.number_slots.specs.Leasts.{IsLeast}
use Rattle.board_core.specs.Bars.{IsBarredItem}
use Rattle.board_core.specs.Costs.{adds_touch_most}
use Rattle.board_core.proofs.Leasts.{AnyOf}
use Rattle.board_core.proofs.barrings.adds_bar.Given as goal

-- The least boundary for the adds so far, and the steps that are left are those of the others.
abbrev pub invariant-loop-add : goal.invariant-loop-add
invariant-loop-add g l = record {
  least : IsLeast (λ n. AnyOf (λ (a : Add). IsBarredItem l.design.parts l.board l.client (item_of_add a) n) (take l.add-index l.adds)) l.least;
  cost : l.steps + adds_touch_most l.design.parts l.board.fences (drop l.add-index l.adds) ≤ l.initial.steps + adds_touch_most l.design.parts l.board.fences l.adds;
}
