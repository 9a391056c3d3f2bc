use Rattle.std.proofs.Common.{◌≡◌, drop}
use Rattle.dsn_reader.specs.Numbering.{numbers_by}
use Rattle.dsn_reader.specs.PairAssembly.{number_in}
use Rattle.dsn_reader.proofs.pairs.numbers_met.Given as goal

abbrev pub invariant-loop-mark : goal.invariant-loop-mark
invariant-loop-mark l = numbers_by (number_in l.known) l.ids (drop l.mark-index l.marks) ≡ numbers_by (number_in l.known) l.initial.ids l.marks
