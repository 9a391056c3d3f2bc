use Rattle.std.proofs.Common.{◌≡◌, drop}
use Rattle.dsn_reader.specs.Assembly.{least_in_classes}
use Rattle.dsn_reader.proofs.assembly.least_in_classes.Given as goal

abbrev pub invariant-loop-class : goal.invariant-loop-class
invariant-loop-class l = least_in_classes l.names l.least (drop l.class-index l.classes) ≡ least_in_classes l.names l.initial.least l.classes
