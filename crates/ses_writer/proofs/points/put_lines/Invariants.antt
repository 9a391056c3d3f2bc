use Rattle.std.proofs.Common.{◌≡◌, ◌++◌, drop}
use Rattle.std.specs.List.{flat_map}
use Rattle.ses_writer.specs.Routes.{point_line}
use Rattle.ses_writer.proofs.points.put_lines.Given as goal

abbrev pub invariant-loop-p : goal.invariant-loop-p
invariant-loop-p l = l.out ++ flat_map point_line (drop l.p-index l.points) ≡ l.initial.out ++ flat_map point_line l.points
