use Rattle.std.proofs.Common.{◌≡◌, ◌++◌, drop, Some}
use Rattle.dsn_turns.specs.Turning.{each_of, through, and_then}
use Rattle.dsn_turns.proofs.moves.led_points.Given as goal

abbrev pub invariant-loop-p : goal.invariant-loop-p
invariant-loop-p l = each_of (through l.steps) l.points ≡ and_then (each_of (through l.steps) (drop l.p-index l.points)) (λ rest. Some (l.places ++ rest))
