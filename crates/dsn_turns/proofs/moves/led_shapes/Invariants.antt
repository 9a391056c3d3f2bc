use Rattle.std.proofs.Common.{◌≡◌, ◌++◌, drop, Some}
use Rattle.dsn_turns.specs.Turning.{each_of, shape_moved, and_then}
use Rattle.dsn_turns.proofs.moves.led_shapes.Given as goal

abbrev pub invariant-loop-shape : goal.invariant-loop-shape
invariant-loop-shape l = each_of (shape_moved l.steps l.over) l.shapes ≡ and_then (each_of (shape_moved l.steps l.over) (drop l.shape-index l.shapes)) (λ rest. Some (l.places ++ rest))
