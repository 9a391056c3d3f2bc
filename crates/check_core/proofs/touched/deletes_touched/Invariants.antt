use Rattle.std.proofs.Common.{◌+◌, ◌≤◌, ℕ, take, drop}
use Rattle.std.specs.Prelude.{Any}
use Rattle.board_core.specs.Costs.{deletes_most}
use Rattle.check_core.specs.Tries.{GrowsBy, IsMetByDelete}
use Rattle.check_core.proofs.touched.deletes_touched.Given as goal

-- What the deletes so far meet has come, and the steps that are left are those of the others.
abbrev pub invariant-loop-id : goal.invariant-loop-id
invariant-loop-id g l = record {
  found : GrowsBy (λ n. Any (λ (id : ℕ). IsMetByDelete l.design.parts l.board id n) (take l.id-index l.deletes)) l.initial.found l.found;
  cost : l.steps + deletes_most l.design.parts l.board (drop l.id-index l.deletes) ≤ l.initial.steps + deletes_most l.design.parts l.board l.deletes;
}
