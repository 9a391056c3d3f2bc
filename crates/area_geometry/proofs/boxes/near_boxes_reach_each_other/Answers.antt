use Rattle.area_geometry.proofs.Reaches.{near_told}
use Rattle.area_geometry.proofs.boxes.near_boxes_reach_each_other.Goals as goal

pub returns : goal.returns
returns c = near_told
