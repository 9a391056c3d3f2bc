use Rattle.std.proofs.Common.{◌+◌, ◌≤◌}
use Rattle.board_rules.specs.Rules.{under}
use Rattle.board_rules.specs.Needs.{largest_of}
use Rattle.check_core.specs.NearCosts.{near_pairs_most, from_on}
use Rattle.check_core.proofs.Paired.{AreKeptBelow}
use Rattle.check_core.proofs.live_pairs.least_pair_of.Given as goal

-- The pairs so far are kept, and the steps that are left are those of the others.
abbrev pub invariant-loop-number : goal.invariant-loop-number
invariant-loop-number g l = record {
  kept : AreKeptBelow l.design.parts (under l.rules) l.board.live l.number;
  cost : l.steps + near_pairs_most l.design.parts (largest_of l.design.parts (under l.rules)) (from_on l.number l.board.live)
      ≤ l.initial.steps + near_pairs_most l.design.parts (largest_of l.design.parts (under l.rules)) l.board.live;
}
