use Rattle.std.proofs.Common.{◌+◌}
use Rattle.board_rules.specs.Needs.{KeepsNeed}
use Rattle.board_rules.specs.Rules.{under}
use Rattle.check_core.specs.NearCosts.{near_pair_most, from_on}
use Rattle.check_core.proofs.Least.{AreKept}
use Rattle.check_core.proofs.Tested.{IsBounded}
use Rattle.check_core.proofs.live_pairs.first_later.Given as goal

-- The items so far are kept, and no more was taken than they may take.
abbrev pub invariant-loop-id : goal.invariant-loop-id
invariant-loop-id g l = record {
  kept : AreKept (KeepsNeed l.design.parts (under l.rules)) l.board.live l.number l.item l.ids l.id-index;
  cost : IsBounded (near_pair_most l.design.parts l.by l.item) 0 (from_on (l.number + 1) l.board.live) l.ids l.id-index l.initial.steps l.steps;
}
