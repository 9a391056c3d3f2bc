use Rattle.std.proofs.Common.{take}
use Rattle.std.specs.Prelude.{All}
use Rattle.area_geometry.specs.Copper.{IsWithinLimits}
use Rattle.board_items.specs.Adds.{item_seen}
use Rattle.board_items.specs.Shapes.{copper_of_item}
use Rattle.board_rules.proofs.fits.all_fit.Given as goal

-- The shapes so far are within the limits.
abbrev pub invariant-loop-i : goal.invariant-loop-i
invariant-loop-i l = All IsWithinLimits (take l.i (copper_of_item l.stacks (item_seen l.item)))
