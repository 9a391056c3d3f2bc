use Rattle.seg_geometry.proofs.Frames.{IsFrame}
use Rattle.seg_geometry.proofs.rectangles.rect_of.Given as goal

abbrev pub invariant-loop-p : goal.invariant-loop-p
invariant-loop-p l = IsFrame l.frame.lo.x l.frame.lo.y l.frame.hi.x l.frame.hi.y l.points l.p-index
