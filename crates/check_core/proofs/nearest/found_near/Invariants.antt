use Rattle.std.proofs.Common.{ℕ, take}
use Rattle.std.specs.Prelude.{All, Any}
use Rattle.std.specs.List.{Contains}
use Rattle.board_items.specs.Adds.{item_seen}
use Rattle.board_items.specs.Shapes.{copper_of_item}
use Rattle.check_core.specs.Filings.{FindsNear, IsFoundBy}
use Rattle.check_core.proofs.nearest.found_near.Given as goal

-- Near the shapes so far all is found, and nothing else.
abbrev pub invariant-loop-i : goal.invariant-loop-i
invariant-loop-i g l = record {
  all : All (FindsNear l.by (g.N.Near.filed l.near) l.found) (take l.i (copper_of_item l.design.parts.stacks (item_seen l.item)));
  sound : (id : ℕ) → Contains l.found id → Any (IsFoundBy l.by (g.N.Near.filed l.near) id) (take l.i (copper_of_item l.design.parts.stacks (item_seen l.item)));
}
