use Rattle.std.proofs.Common.{◌≡◌, drop}
use Rattle.dsn_reader.specs.Assembly.{least_in_lists}
use Rattle.dsn_reader.proofs.assembly.least_in_lists.Given as goal

abbrev pub invariant-loop-marks : goal.invariant-loop-marks
invariant-loop-marks l = least_in_lists l.names l.least (drop l.marks-index l.lists) ≡ least_in_lists l.names l.initial.least l.lists
