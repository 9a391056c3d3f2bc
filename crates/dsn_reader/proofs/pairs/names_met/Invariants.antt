use Rattle.std.proofs.Common.{◌≡◌, suc, drop}
use Rattle.dsn_reader.specs.PairAssembly.{no_class_names, names_met}
use Rattle.dsn_reader.proofs.pairs.names_met.Given as goal

abbrev pub invariant-loop-i : goal.invariant-loop-i
invariant-loop-i l = names_met l.known (suc l.i) (drop l.i l.classes) ≡ names_met no_class_names 1 l.classes
