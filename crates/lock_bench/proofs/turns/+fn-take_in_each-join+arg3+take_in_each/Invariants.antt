use Rattle.std.proofs.Common.{◌+◌, ◌*◌}
use Rattle.lock_bench.proofs.turns.+fn-take_in_each-join+arg3+take_in_each.Given as goal

abbrev pub decreases-join+arg3 : goal.decreases-join+arg3
decreases-join+arg3 g l = 2 * l.fewer + 1

abbrev pub decreases-take_in_each : goal.decreases-take_in_each
decreases-take_in_each g l = 2 * l.further
