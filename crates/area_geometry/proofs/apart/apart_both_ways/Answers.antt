use Rattle.area_geometry.proofs.BothWays.{shapes-turned}
use Rattle.area_geometry.proofs.apart.apart_both_ways.Goals as goal

pub returns : goal.returns
returns c = shapes-turned
