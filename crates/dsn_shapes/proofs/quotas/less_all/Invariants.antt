use Rattle.std.proofs.Common.{◌≡◌, drop}
use Rattle.dsn_shapes.specs.Quotas.{less_all}
use Rattle.dsn_shapes.proofs.quotas.less_all.Given as goal

abbrev pub invariant-loop-shape : goal.invariant-loop-shape
invariant-loop-shape l = less_all l.left (drop l.shape-index l.shapes) ≡ less_all l.initial.left l.shapes
