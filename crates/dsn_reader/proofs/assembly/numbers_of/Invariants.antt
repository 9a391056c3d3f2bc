use Rattle.std.proofs.Common.{◌≡◌, drop}
use Rattle.dsn_lists.specs.Names.{place_of}
use Rattle.dsn_reader.specs.Numbering.{numbers_by}
use Rattle.dsn_reader.proofs.assembly.numbers_of.Given as goal

abbrev pub invariant-loop-mark : goal.invariant-loop-mark
invariant-loop-mark l = numbers_by (place_of l.names) l.ids (drop l.mark-index l.marks) ≡ numbers_by (place_of l.names) l.initial.ids l.marks
