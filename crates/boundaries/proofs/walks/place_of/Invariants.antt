use Rattle.std.proofs.Common.{◌≡◌, take}
use Rattle.boundaries.proofs.Walked.{NoneIs}
use Rattle.boundaries.proofs.walks.place_of.Given as goal

-- no boundary so far has the number
abbrev pub invariant-loop-i : goal.invariant-loop-i
invariant-loop-i l = NoneIs (λ n b. n ≡ l.number) (take l.i l.live)
