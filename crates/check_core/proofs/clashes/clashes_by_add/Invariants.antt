use Rattle.std.proofs.Common.{◌+◌, ◌≤◌, ◌++◌, ℕ, List, drop}
use Rattle.board_rules.specs.Needs.{largest_of}
use Rattle.check_core.specs.CheckCosts.{near_adds_most}
use Rattle.check_core.specs.Tries.{AreClashes}
use Rattle.check_core.proofs.clashes.clashes_by_add.Given as goal

-- The clashes so far and those of the rest are all, and the steps that are left are those of the others.
abbrev pub invariant-loop-i : goal.invariant-loop-i
invariant-loop-i g l = record {
  so_far : (more : List (ℕ × ℕ)) → AreClashes l.design.parts l.board l.deletes (l.i + 1) (drop l.i l.adds) more → AreClashes l.design.parts l.board l.deletes 1 l.adds (l.pairs ++ more);
  cost : l.steps + near_adds_most l.design.parts (largest_of l.design.parts l.board.rules) l.board.live (drop l.i l.adds)
      ≤ l.initial.steps + near_adds_most l.design.parts (largest_of l.design.parts l.board.rules) l.board.live l.adds;
}
