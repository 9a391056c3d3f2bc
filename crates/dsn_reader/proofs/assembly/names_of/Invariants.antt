use Rattle.std.proofs.Common.{◌≡◌, ◌++◌, drop}
use Rattle.dsn_reader.proofs.assembly.names_of.Given as goal

abbrev pub invariant-loop-i : goal.invariant-loop-i
invariant-loop-i l = l.names ++ drop l.i l.set ≡ l.set
