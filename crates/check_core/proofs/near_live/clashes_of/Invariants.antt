use Rattle.board_items.specs.Adds.{item_seen}
use Rattle.board_rules.specs.Rules.{under}
use Rattle.board_core.specs.Edits.{IsNear}
use Rattle.check_core.specs.NearCosts.{near_pair_most}
use Rattle.check_core.proofs.Putting.{ArePut}
use Rattle.check_core.proofs.Tested.{IsBounded}
use Rattle.check_core.proofs.near_live.clashes_of.Given as goal

-- The numbers so far that are near are put, and no more was taken than they may take.
abbrev pub invariant-loop-id : goal.invariant-loop-id
invariant-loop-id g l = record {
  put : ArePut (IsNear l.design.parts (under l.rules) l.board.live l.deletes (item_seen l.item)) l.id-items l.id-index l.clashes;
  cost : IsBounded (near_pair_most l.design.parts l.by (item_seen l.item)) 0 l.board.live l.id-items l.id-index l.initial.steps l.steps;
}
