use Rattle.seg_geometry.specs.Points.{IsInRange}
use Rattle.session_wire.specs.Points.{point_text}
use Rattle.session_wire.specs.Parts.{AreThen}
use Rattle.session_wire.proofs.points.points_at.Given as goal

abbrev pub invariant-loop-turn : goal.invariant-loop-turn
invariant-loop-turn l = AreThen IsInRange point_text l._turn l.line l.points l.rest
