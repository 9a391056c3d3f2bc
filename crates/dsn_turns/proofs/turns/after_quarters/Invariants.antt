use Rattle.std.proofs.Common.{◌≡◌, ◌-◌, ◌^◌}
use Rattle.dsn_turns.specs.Turns.{quarters}
use Rattle.dsn_turns.specs.Wides.{point_of, IsAtMost}
use Rattle.dsn_turns.proofs.turns.after_quarters.Given as goal

abbrev pub invariant-loop-quarter : goal.invariant-loop-quarter
invariant-loop-quarter l = record {
  point : quarters (l.count - l._quarter) (point_of l.q) ≡ quarters l.count (point_of l.fn.p);
  bound : IsAtMost (2 ^ 64) l.q;
}
