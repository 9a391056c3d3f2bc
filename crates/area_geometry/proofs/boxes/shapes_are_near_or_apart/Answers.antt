use Rattle.area_geometry.proofs.Missed.{near_or_apart}
use Rattle.area_geometry.proofs.boxes.shapes_are_near_or_apart.Goals as goal

pub returns : goal.returns
returns c = near_or_apart
