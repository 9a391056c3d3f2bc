use Rattle.std.proofs.Common.{◌≡◌, drop}
use Rattle.check_core.specs.Changes.{left_below}
use Rattle.check_core.proofs.following.leave.Given as goal

-- Without the numbers that are left it is the list without all of them.
abbrev pub invariant-loop-id : goal.invariant-loop-id
invariant-loop-id g l = left_below (drop l.id-index l.ids) l.bound (g.N.Near.filed l.near) ≡ left_below l.ids l.bound (g.N.Near.filed l.initial.near)
