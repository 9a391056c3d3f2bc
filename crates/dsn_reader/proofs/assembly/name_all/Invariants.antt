use Rattle.std.proofs.Common.{◌≡◌, suc, length, drop}
use Rattle.dsn_network.specs.Networks.{classed}
use Rattle.dsn_reader.proofs.assembly.name_all.Given as goal

abbrev pub invariant-loop-i : goal.invariant-loop-i
invariant-loop-i l = (classed l.nets (suc l.i) l.numbers (drop l.i l.classes) ≡ classed l.nets 1 l.initial.numbers l.classes) × (length l.numbers ≡ length l.nets)
