use Rattle.std.proofs.Common.{◌+◌, ◌*◌}
use Rattle.turn_lock.proofs.tests.+add_in_each+fn-add_in_each-join+arg3.Given as goal

abbrev pub decreases-add_in_each : goal.decreases-add_in_each
decreases-add_in_each g l = 2 * l.further

abbrev pub decreases-join+arg3 : goal.decreases-join+arg3
decreases-join+arg3 g l = 2 * l.fewer + 1
