use Rattle.std.proofs.Common.{◌≡◌, ◌+◌}
use Rattle.check_core.specs.Changes.{outside}
use Rattle.check_core.proofs.following.take_out.Given as goal

-- The numbers so far are out.
abbrev pub invariant-loop-i : goal.invariant-loop-i
invariant-loop-i g l = g.N.Near.filed l.near ≡ outside l.first (l.first + l.i) (g.N.Near.filed l.initial.near)
