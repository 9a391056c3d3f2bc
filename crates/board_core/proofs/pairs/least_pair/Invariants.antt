use Rattle.std.proofs.Common.{◌+◌, ◌≤◌}
use Rattle.std.specs.Prelude.{Option}
use Rattle.board_items.specs.declared.items.ItemId.{ItemId}
use Rattle.board_rules.specs.Rules.{under}
use Rattle.number_slots.specs.Slots.{IsRisingFrom}
use Rattle.board_core.specs.Boards.{AreFitItems}
use Rattle.board_core.specs.Costs.{pairs_most}
use Rattle.board_core.specs.LiveItems.{live_from}
use Rattle.board_core.proofs.Cleaned.{Told}
use Rattle.board_core.proofs.pairs.least_pair.Given as goal

-- What the items that are left give is what all give, and they take the steps that are left.
abbrev pub invariant-loop-i : goal.invariant-loop-i
invariant-loop-i g l = record {
  fit : AreFitItems l.design.parts (live_from l.items l.i);
  rising : IsRisingFrom 1 (live_from l.items l.i);
  same : (r : Option (ItemId × ItemId)) → Told l.design.parts (under l.rules) (live_from l.items l.i) r → Told l.design.parts (under l.rules) (live_from l.items 0) r;
  cost : l.steps + pairs_most l.design.parts (live_from l.items l.i) ≤ l.initial.steps + pairs_most l.design.parts (live_from l.items 0);
}
