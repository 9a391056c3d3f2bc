use Rattle.std.proofs.Common.{◌≡◌, ◌++◌, drop}
use Rattle.std.specs.List.{flat_map}
use Rattle.session_wire.specs.Points.{point_text}
use Rattle.session_wire.proofs.put_parts.put_points.Given as goal

abbrev pub invariant-loop-point : goal.invariant-loop-point
invariant-loop-point l = l.to ++ flat_map point_text (drop l.point-index l.points) ≡ l.initial.to ++ flat_map point_text l.points
