use Rattle.std.proofs.Common.{◌≡◌, drop}
use Rattle.dsn_reader.specs.Assembly.{least_unknown}
use Rattle.dsn_reader.proofs.assembly.least_unknown.Given as goal

abbrev pub invariant-loop-mark : goal.invariant-loop-mark
invariant-loop-mark l = least_unknown l.names l.least (drop l.mark-index l.marks) ≡ least_unknown l.names l.initial.least l.marks
