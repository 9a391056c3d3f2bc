use Rattle.std.proofs.Common.{◌≡◌, length, drop}
use Rattle.dsn_network.specs.Networks.{named_in}
use Rattle.dsn_reader.proofs.assembly.name_nets.Given as goal

abbrev pub invariant-loop-mark : goal.invariant-loop-mark
invariant-loop-mark l = (named_in l.nets l.class l.classes (drop l.mark-index l.marks) ≡ named_in l.nets l.class l.initial.classes l.marks) × (length l.classes ≡ length l.nets)
