use Rattle.turn_lock.specs.Sittings.{IsSameSeat}
use Rattle.lock_bench.proofs.turns.take_turns.Given as goal

abbrev pub invariant-loop-i : goal.invariant-loop-i
invariant-loop-i g l = IsSameSeat l.initial.seat l.seat
