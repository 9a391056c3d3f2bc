use Rattle.std.proofs.Common.{take, drop, ◌+◌, ◌≤◌}
use Rattle.number_slots.specs.Leasts.{IsLeast}
use Rattle.board_core.specs.Bars.{IsCoveredPair}
use Rattle.board_core.specs.Costs.{held_most}
use Rattle.board_core.proofs.Leasts.{AnyOf}
use Rattle.board_core.proofs.covers.least_covered.Given as goal

-- The least item of the reservations so far, and the steps that are left are those of the others.
abbrev pub invariant-loop-i : goal.invariant-loop-i
invariant-loop-i g l = record {
  least : IsLeast (λ id. AnyOf (λ x. IsCoveredPair l.design.parts l.board.live l.client l.layers l.area x id) (take l.i l.board.held)) l.least;
  cost : l.steps + held_most l.design.parts l.board.live l.layers l.area (drop l.i l.board.held) ≤ l.initial.steps + held_most l.design.parts l.board.live l.layers l.area l.board.held;
}
