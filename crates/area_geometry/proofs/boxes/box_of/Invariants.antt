use Rattle.seg_geometry.proofs.Frames.{IsFrame}
use Rattle.area_geometry.specs.Copper.{copper_of}
use Rattle.area_geometry.proofs.boxes.box_of.Given as goal

-- The rectangle is the least one round the points so far.
abbrev pub invariant-loop-i : goal.invariant-loop-i
invariant-loop-i l = IsFrame l.frame.lo.x l.frame.lo.y l.frame.hi.x l.frame.hi.y (copper_of l.s).points l.i
