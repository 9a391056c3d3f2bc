use Rattle.std.proofs.Common.{take, drop, ℕ, [], ◌∷◌, ◌+◌, ◌≤◌}
use Rattle.number_slots.specs.Leasts.{IsLeast}
use Rattle.board_core.specs.Barrings.{IsBarring}
use Rattle.board_core.specs.Costs.{deletes_most}
use Rattle.board_core.proofs.Leasts.{AnyOf}
use Rattle.board_core.proofs.barrings.deletes_bar.Given as goal

-- The least boundary for the deletes so far, and the steps that are left are those of the others.
abbrev pub invariant-loop-id : goal.invariant-loop-id
invariant-loop-id g l = record {
  least : IsLeast (λ n. AnyOf (λ (id : ℕ). IsBarring l.design.parts l.board l.client (id ∷ []) [] n) (take l.id-index l.deletes)) l.least;
  cost : l.steps + deletes_most l.design.parts l.board (drop l.id-index l.deletes) ≤ l.initial.steps + deletes_most l.design.parts l.board l.deletes;
}
