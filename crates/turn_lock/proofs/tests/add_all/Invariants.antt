use Rattle.std.proofs.Common.{◌≡◌, ◌++◌, map, take}
use Rattle.turn_lock.specs.Sittings.{IsSameSeat}
use Rattle.turn_lock.proofs.tests.add_all.Given as goal

abbrev pub invariant-loop-i : goal.invariant-loop-i
invariant-loop-i g l = IsSameSeat l.initial.seat l.seat
    × (map (λ e. e.number) l.seat.own ≡ map (λ e. e.number) l.initial.seat.own ++ take l.i l.fn.numbers)
