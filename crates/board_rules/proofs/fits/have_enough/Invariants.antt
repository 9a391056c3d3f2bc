use Rattle.std.proofs.Common.{take}
use Rattle.std.specs.Prelude.{All}
use Rattle.board_rules.specs.Designs.{HasEnough}
use Rattle.board_items.specs.Adds.{item_seen}
use Rattle.board_items.specs.Shapes.{copper_of_item}
use Rattle.board_rules.proofs.fits.have_enough.Given as goal

-- The shapes so far have their points.
abbrev pub invariant-loop-i : goal.invariant-loop-i
invariant-loop-i l = All HasEnough (take l.i (copper_of_item l.stacks (item_seen l.item)))
