use Rattle.std.proofs.Common.{take}
use Rattle.board_items.specs.Adds.{item_seen}
use Rattle.board_items.specs.Shapes.{copper_of_item}
use Rattle.check_core.specs.Filings.{Enters, Lengthens}
use Rattle.check_core.proofs.entering.enter.Given as goal

-- The shapes so far are entered, and nothing else.
abbrev pub invariant-loop-i : goal.invariant-loop-i
invariant-loop-i g l = record {
  entered : Enters l.id (take l.i (copper_of_item l.design.parts.stacks (item_seen l.item))) (g.N.Near.filed l.initial.near) (g.N.Near.filed l.near);
  own : Lengthens l.id (g.N.Near.filed l.initial.near) (g.N.Near.filed l.near);
}
