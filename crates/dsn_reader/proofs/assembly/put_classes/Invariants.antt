use Rattle.std.proofs.Common.{◌≡◌, drop}
use Rattle.dsn_reader.specs.Assembly.{class_rows}
use Rattle.dsn_reader.proofs.assembly.put_classes.Given as goal

abbrev pub invariant-loop-class : goal.invariant-loop-class
invariant-loop-class l = class_rows l.names l.rows (drop l.class-index l.classes) ≡ class_rows l.names l.initial.rows l.classes
