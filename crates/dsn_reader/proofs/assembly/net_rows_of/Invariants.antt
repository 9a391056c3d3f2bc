use Rattle.std.proofs.Common.{◌≡◌}
use Rattle.dsn_reader.specs.Assembly.{net_rows}
use Rattle.dsn_reader.proofs.assembly.net_rows_of.Given as goal

abbrev pub invariant-loop-i : goal.invariant-loop-i
invariant-loop-i l = l.rows ≡ net_rows l.i l.nets l.classes
