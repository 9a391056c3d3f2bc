use Rattle.std.proofs.Common.{ℕ, ◌≤◌, ◌+◌}
use Rattle.std.specs.Prelude.{Option}
use Rattle.board_items.specs.Adds.{item_seen}
use Rattle.board_rules.specs.Rules.{under}
use Rattle.number_slots.specs.Leasts.{IsLeast}
use Rattle.number_slots.specs.Slots.{without, IsRisingFrom}
use Rattle.board_core.specs.Boards.{AreFitItems}
use Rattle.board_core.specs.Costs.{item_most}
use Rattle.board_core.specs.Edits.{IsNear}
use Rattle.board_core.specs.LiveItems.{live_from}
use Rattle.board_core.proofs.nears.least_near.Given as goal

-- The least of the items that are left is the least of all, and they take the steps that are left.
abbrev pub invariant-loop-i : goal.invariant-loop-i
invariant-loop-i g l = record {
  fit : AreFitItems l.design.parts (live_from l.items l.i);
  rising : IsRisingFrom 1 (live_from l.items l.i);
  same : (r : Option ℕ) → IsLeast (IsNear l.design.parts (under l.rules) (live_from l.items l.i) l.deletes (item_seen l.item)) r → IsLeast (IsNear l.design.parts (under l.rules) (live_from l.items l.from) l.deletes (item_seen l.item)) r;
  cost : l.steps + item_most l.design.parts (item_seen l.item) (without l.deletes (live_from l.items l.i)) ≤ l.initial.steps + item_most l.design.parts (item_seen l.item) (without l.deletes (live_from l.items l.from));
}
