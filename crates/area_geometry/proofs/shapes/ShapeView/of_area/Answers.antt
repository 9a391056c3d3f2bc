use Rattle.std.proofs.Common.{true}
use Rattle.area_geometry.proofs.Places.{moved_nowhere}
use Rattle.area_geometry.proofs.shapes.ShapeView.of_area.Goals as goal

pub returns : goal.returns
returns c = λ i. record { layer = c.args.layer; area = true; points = moved_nowhere c.args.points.now i; width = 0 }
